use Rattle.run_combinations.proofs.Parting.{sifted_none, sifted_more}
use Rattle.run_combinations.proofs.part.sift.Goals as goal

pub loop-init : goal.loop-init
loop-init c = sifted_none c.args.initial.now c.args.threads.now

pub loop-preserved : goal.loop-preserved
loop-preserved c =
    sifted_more c.args.initial.now c.args.threads.now _ _ c.loop.invariant c.keep_readable.ensures

pub returns-then-left-count : goal.returns-then-left-count
returns-then-left-count c =
    sifted_more c.args.initial.now c.args.threads.now _ _ c.loop.invariant c.keep_readable.ensures
