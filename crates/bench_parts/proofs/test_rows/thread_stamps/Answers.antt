use Rattle.std.proofs.Common.{arith, option_map}
use Rattle.bench_parts.specs.Tests.{entry_of}
use Rattle.bench_parts.proofs.TestRows.{thread_stamps}
use Rattle.bench_parts.proofs.test_rows.thread_stamps.Goals as goal

pub returns-clause-each : goal.returns-clause-each
returns-clause-each c =
    thread_stamps c.args.fresh (option_map (λ h. entry_of h.now) c.args.before) c.args.threads.now
    c.loop-k.stamps.items (omega arith) (λ k lt. c.loop-k.invariant.1 k (omega arith))
