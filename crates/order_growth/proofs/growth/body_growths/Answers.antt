use Rattle.order_growth.proofs.Stepping.{one_body}
use Rattle.order_growth.proofs.growth.body_growths.Goals as goal

pub loop-body-preserved : goal.loop-body-preserved
loop-body-preserved c =
    one_body c.args.inputs.now c.args.bodies.now c.loop-body.body-index c.body-item.result
    c.loop-body.growths.items c.push.new.self.items c.in_ok-code_growth.field-0 c.loop-body-test.true
    c.body-item.is c.in_ok-push.ensures.items
    (rw c.deref.ensures.value at c.in_ok-code_growth.ensures) c.loop-body.invariant
