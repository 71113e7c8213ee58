use Rattle.std.proofs.Common.{List, Vec, [], ◌∷◌, ◌++◌, map, ap, sym, ◌∙◌}
use Rattle.std.specs.declared.alloc.Global.{Global}
use Rattle.std.proofs.lemmas.List.{map-append, append-nil}
use Rattle.meaning.specs.Executions.{Event}
use Rattle.plain_events.specs.declared.event.Event as code
use Rattle.plain_events.specs.Events.{event_as}
use Rattle.plain_events.proofs.Combining.{got_none, got_some}
use Rattle.plain_executions.specs.Executions.{event_lists_as}
use Rattle.plain_executions.proofs.picked_orders.put_order.Goals as goal

pub returns-then-index-list : goal.returns-then-index-list
returns-then-index-list c =
    let old = event_lists_as c.args.picked.now.items in
    sym (ap (λ (l : List (List Event)). old ++ l) (got_none (λ (v : Vec code.Event Global). map event_as v.items) c.args.list.now c.args.index c.if-index-list.true) ∙ append-nil old)

pub returns : goal.returns
returns c =
    let old = event_lists_as c.args.picked.now.items in
    let f = λ (v : Vec code.Event Global). map event_as v.items in
    ap (λ (l : List (Vec code.Event Global)). event_lists_as l) c.in_ok-push.ensures.items
    ∙ map-append f c.args.picked.now.items (c.in_ok-order.order ∷ [])
    ∙ ap (λ (l : List code.Event). old ++ map event_as l ∷ [])
    (c.in_ok-order.ensures.items ∙ c.deref.ensures.value ∙ ap (λ (v : Vec code.Event Global). v.items) c.index-list-index.is)
    ∙ ap (λ (l : List (List Event)). old ++ l) (sym (got_some f c.args.list.now c.args.index c.index-list-index.result c.if-index-list.false))
