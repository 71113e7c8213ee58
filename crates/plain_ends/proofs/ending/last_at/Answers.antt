use Rattle.std.proofs.Common.{Vec, ap, ◌∙◌}
use Rattle.std.specs.declared.alloc.Global.{Global}
use Rattle.plain_events.specs.declared.event.Event.{Event}
use Rattle.plain_ends.proofs.Finals.{no_order, last_found, no_last}
use Rattle.plain_ends.proofs.ending.last_at.Goals as goal

pub returns-then-index-orders : goal.returns-then-index-orders
returns-then-index-orders c = no_order c.args.orders.now c.args.index c.if-index-orders.true

pub returns-in-Some : goal.returns-in-Some
returns-in-Some c =
    last_found c.args.orders.now c.args.index c.index-orders-index.result c.if-index-orders.false
    c.deref.result.now
    (c.deref.ensures.value ∙ ap (λ (v : Vec Event Global). v.items) c.index-orders-index.is)
    c.in-Some.last.now c.in-Some.field-0-1.now c.in-Some.ensures.cases

pub returns-in-None : goal.returns-in-None
returns-in-None c =
    no_last c.args.orders.now c.args.index c.index-orders-index.result c.if-index-orders.false
    c.deref.result.now
    (c.deref.ensures.value ∙ ap (λ (v : Vec Event Global). v.items) c.index-orders-index.is)
    c.in-None.ensures.cases
