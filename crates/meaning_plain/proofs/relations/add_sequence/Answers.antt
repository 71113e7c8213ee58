use Rattle.std.proofs.Common.{arith}
use Rattle.meaning_plain.specs.Lists.{JoinsSteps}
use Rattle.meaning_plain.proofs.Growing.{grows_begin, grows_more, grows_all}
use Rattle.meaning_plain.proofs.relations.add_sequence.Goals as goal

pub loop-pair-init : goal.loop-pair-init
loop-pair-init c = grows_begin (JoinsSteps c.args.second.now) c.args.pairs.now.items

pub loop-pair-preserved : goal.loop-pair-preserved
loop-pair-preserved c =
    grows_more (JoinsSteps c.args.second.now) c.args.first.now c.loop-pair.pair-index _ _ _ _ (omega arith)
    c.loop-pair.invariant c.in_ok-add_steps.ensures

pub returns : goal.returns
returns c =
    grows_all (JoinsSteps c.args.second.now) c.args.first.now c.loop-pair.pair-index _ _ (omega arith) c.loop-pair.invariant
