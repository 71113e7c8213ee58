use Rattle.base_names.proofs.Tails.{none_stands, stands_more, stands_all}
use Rattle.base_names.proofs.reordering.standing_from.Goals as goal

pub loop-index-init : goal.loop-index-init
loop-index-init c = none_stands c.args.order.now c.args.from c.empty-standing.ensures

pub loop-index-preserved : goal.loop-index-preserved
loop-index-preserved c =
    stands_more c.args.order.now c.args.from c.loop-index.index _ c.loop-index.auto.index
    c.loop-index-test.true c.from.ensures c.loop-index.invariant c.add.ensures

pub returns : goal.returns
returns c =
    stands_all c.args.order.now c.args.from c.loop-index.index c.loop-index-test.false
    c.loop-index.invariant
