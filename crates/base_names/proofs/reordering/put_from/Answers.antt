use Rattle.bit_rows.specs.Relation.{Has}
use Rattle.base_names.proofs.Tails.{since_nothing, since_more, since_all}
use Rattle.base_names.proofs.reordering.put_from.Goals as goal

pub loop-index-init : goal.loop-index-init
loop-index-init c =
    since_nothing c.args.coherence.now c.args.events.now c.args.order.now c.args.from
    c.count-count.ensures.regular

pub loop-index-preserved : goal.loop-index-preserved
loop-index-preserved c =
    since_more (Has c.args.coherence.now) c.args.events.now c.args.order.now c.args.from
    c.loop-index.index c.loop-index.auto.index c.loop-index.invariant c.put_later.ensures

pub returns : goal.returns
returns c =
    since_all (Has c.args.coherence.now) c.args.events.now c.args.order.now c.args.from
    c.loop-index.index c.loop-index-test.false c.loop-index.invariant
