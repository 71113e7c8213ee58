use Rattle.std.proofs.Common.{List, Vec, map, ap, sym, subst, ◌∙◌}
use Rattle.std.specs.declared.alloc.Global.{Global}
use Rattle.std.proofs.lemmas.Bool.{iff_false}
use Rattle.meaning.specs.Executions.{Event}
use Rattle.plain_events.specs.declared.event.Event as code
use Rattle.plain_events.specs.Events.{event_as}
use Rattle.plain_executions.proofs.Depending.{no, yes}
use Rattle.plain_executions.proofs.Executing.{one_has, none_further, none_at_all}
use Rattle.plain_names.specs.Related.{StandsBefore}
use Rattle.plain_names.proofs.related.is_coherent.Goals as goal

pub returns-then-stands : goal.returns-then-stands
returns-then-stands c =
    let a = event_as c.args.first.now in
    let b = event_as c.args.second.now in
    yes (one_has (λ (es : List Event). StandsBefore es a b) (λ (v : Vec code.Event Global). map event_as v.items)
    c.args.orders.now c.loop-order.order-index c.order-item.result c.loop-order-test.true
    (subst (λ (l : List code.Event). StandsBefore (map event_as l) a b)
    (c.deref.ensures.value ∙ ap (λ (v : Vec code.Event Global). v.items) c.order-item.is)
    (c.stands_before-stands.ensures.0 c.if-stands.true)))

pub loop-order-preserved : goal.loop-order-preserved
loop-order-preserved c =
    let a = event_as c.args.first.now in
    let b = event_as c.args.second.now in
    none_further (λ (es : List Event). StandsBefore es a b) (λ (v : Vec code.Event Global). map event_as v.items)
    c.args.orders.now c.loop-order.order-index c.order-item.result c.loop-order-test.true
    (λ is. iff_false c.stands_before-stands.ensures c.if-stands.false
    (subst (λ (l : List code.Event). StandsBefore (map event_as l) a b)
    (sym (c.deref.ensures.value ∙ ap (λ (v : Vec code.Event Global). v.items) c.order-item.is)) is))
    c.loop-order.invariant

pub returns : goal.returns
returns c =
    no (none_at_all (λ (es : List Event). StandsBefore es (event_as c.args.first.now) (event_as c.args.second.now))
    (λ (v : Vec code.Event Global). map event_as v.items) c.args.orders.now c.loop-order.order-index
    c.loop-order-test.false c.loop-order.invariant)
