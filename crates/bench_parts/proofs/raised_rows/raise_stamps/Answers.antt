use Rattle.std.proofs.Common.{arith}
use Rattle.bench_parts.specs.Stamps.{raised}
use Rattle.bench_parts.proofs.Stamping.{changed_more}
use Rattle.bench_parts.proofs.raised_rows.raise_stamps.Goals as goal

pub loop-stamp-preserved : goal.loop-stamp-preserved
loop-stamp-preserved c =
    changed_more (raised c.args.last c.args.number) c.args.stamps.now c.loop-stamp.stamps
    c.loop-stamp.stamp-index 0 c.raised.result (omega arith) c.loop-stamp.invariant
    c.raised.ensures
