use Rattle.std.proofs.Common.{arith}
use Rattle.run_combinations.proofs.Parting.{up_to_more, up_to_all, sifted_once}
use Rattle.run_combinations.proofs.part.keep_readable.Goals as goal

pub loop-runs-preserved : goal.loop-runs-preserved
loop-runs-preserved c =
    up_to_more c.stored_by-stored.result c.loop-runs.runs-index c.args.threads.now
    c.loop-runs.threads c.runs-item.result c.keep_stored.new.runs (omega arith)
    c.keep_stored.ensures c.loop-runs.invariant

pub returns : goal.returns
returns c =
    sifted_once c.args.initial.now c.stored_by-stored.result c.args.threads.now c.loop-runs.threads
    c.stored_by-stored.ensures (up_to_all c.stored_by-stored.result c.loop-runs.runs-index
    c.args.threads.now c.loop-runs.threads (omega arith) c.loop-runs.invariant)
