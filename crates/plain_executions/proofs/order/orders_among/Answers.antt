use Rattle.std.proofs.Common.{◌≡◌, List, Vec, map, ap, subst, ◌∙◌}
use Rattle.std.specs.Prelude.{Some, slice_get}
use Rattle.std.specs.declared.alloc.Global.{Global}
use Rattle.plain_runs.specs.Keeping.{PutsIf}
use Rattle.plain_runs.proofs.Counting.{kept_step, kept_end}
use Rattle.plain_events.specs.declared.event.Event as code
use Rattle.plain_events.specs.Events.{event_as}
use Rattle.plain_executions.specs.Executions.{event_lists_as}
use Rattle.meaning.specs.Sets.{IsOnce}
use Rattle.meaning.specs.Executions.{Event, Initial}
use Rattle.plain_executions.proofs.order.orders_among.Goals as goal

pub loop-list-preserved : goal.loop-list-preserved
loop-list-preserved c =
    kept_step (λ (v : Vec code.Event Global). map event_as v.items)
    (λ (es : List Event). IsOnce es × (slice_get es 0 ≡ Some (Initial c.args.location.now)))
    c.args.lists.now c.loop-list.list-index c.list-item.result c.loop-list.orders.items
    c.put_if_order.new.orders.items c.loop-list-test.true c.requires c.loop-list.invariant
    (subst
    (λ (l : List code.Event). PutsIf (IsOnce (map event_as l) × (slice_get (map event_as l) 0 ≡ Some (Initial c.args.location.now))) (map event_as l) (event_lists_as c.loop-list.orders.items) (event_lists_as c.put_if_order.new.orders.items))
    (c.deref.ensures.value ∙ ap (λ (v : Vec code.Event Global). v.items) c.list-item.is)
    c.in_ok-put_if_order.ensures)

pub returns : goal.returns
returns c =
    kept_end (λ (v : Vec code.Event Global). map event_as v.items)
    (λ (es : List Event). IsOnce es × (slice_get es 0 ≡ Some (Initial c.args.location.now)))
    c.args.lists.now c.loop-list.list-index (event_lists_as c.loop-list.orders.items) c.loop-list-test.false
    c.loop-list.invariant
