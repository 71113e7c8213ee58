use Rattle.std.proofs.Common.{take}
use Rattle.cat_eval.specs.Needed.{steps_read, steps_order, predefined_names_in, bodies_names}
use Rattle.cat_eval.proofs.Entering.{flat_step}
use Rattle.cat_eval.proofs.Listed.{any_more, listed_more}
use Rattle.cat_eval.proofs.needs.Needs.add_bodies.Goals as goal

pub loop-body-preserved : goal.loop-body-preserved
loop-body-preserved c =
    let l = c.loop-body in
    let xs = c.args.bodies.now in
    let old = c.args.self.now in
    let new = c.add_all.new.self in
    let body = c.body-item.result in
    let added = rw c.deref.ensures.value at c.in_ok-add_all.ensures in (
      any_more (λ one. steps_read one.code.steps.items) xs l.body-index body old.reads l.self.reads
          new.reads c.loop-body-test.true c.body-item.is l.invariant.0 added.changes.0,
      any_more (λ one. steps_order one.code.steps.items) xs l.body-index body old.orders
          l.self.orders new.orders c.loop-body-test.true c.body-item.is l.invariant.1
          added.changes.1,
      rw (flat_step (λ one. predefined_names_in one.code.steps.items) xs l.body-index body
          c.loop-body-test.true c.body-item.is)
          (listed_more old.names.items l.self.names.items new.names.items
          (bodies_names (take l.body-index xs)) (predefined_names_in body.code.steps.items)
          l.invariant.2 added.names),
    )
