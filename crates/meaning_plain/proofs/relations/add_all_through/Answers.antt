use Rattle.std.proofs.Common.{arith}
use Rattle.meaning_plain.specs.Lists.{JoinsThrough}
use Rattle.meaning_plain.proofs.Growing.{grows_begin, grows_more, grows_all}
use Rattle.meaning_plain.proofs.relations.add_all_through.Goals as goal

pub loop-pair-init : goal.loop-pair-init
loop-pair-init c = grows_begin (JoinsThrough c.args.k c.args.steps.now) c.args.pairs.now.items

pub loop-pair-preserved : goal.loop-pair-preserved
loop-pair-preserved c =
    grows_more (JoinsThrough c.args.k c.args.steps.now) c.args.steps.now c.loop-pair.pair-index _ _ _ _ (omega arith)
    c.loop-pair.invariant c.in_ok-add_through.ensures

pub returns : goal.returns
returns c =
    grows_all (JoinsThrough c.args.k c.args.steps.now) c.args.steps.now c.loop-pair.pair-index _ _ (omega arith) c.loop-pair.invariant
