use Rattle.std.proofs.Common.{List, Vec, [], ◌∷◌, map, ap, ◌∙◌}
use Rattle.std.specs.declared.alloc.Global.{Global}
use Rattle.std.proofs.lemmas.List.{map-append}
use Rattle.plain_events.specs.declared.event.Event as code
use Rattle.plain_events.specs.Events.{event_as}
use Rattle.plain_executions.specs.Executions.{event_lists_as}
use Rattle.plain_events.specs.declared.event.Event.TheVariants.{Does}
use Rattle.plain_executions.proofs.Ordering.{copied_more}
use Rattle.plain_executions.proofs.order.copies.Goals as goal

pub loop-store-preserved : goal.loop-store-preserved
loop-store-preserved c =
    copied_more event_as c.args.stores.now c.loop-store.store-index (Does 0 0)
    (event_lists_as c.loop-store.lists.items) (event_lists_as c.push.new.self.items)
    (map event_as c.in_ok-copy.copy.items) c.loop-store-test.true c.loop-store.invariant
    (ap (λ (l : List code.Event). map event_as l) c.in_ok-copy.ensures.items)
    (ap (λ (l : List (Vec code.Event Global)). event_lists_as l) c.in_ok-push.ensures.items
    ∙ map-append (λ (v : Vec code.Event Global). map event_as v.items) c.loop-store.lists.items (c.in_ok-copy.copy ∷ []))
