use denote.Ref.{Bor}
use Rattle.std.proofs.Common.{ℕ, List, Vec, [], ◌∷◌, map, ap, ◌∙◌}
use Rattle.std.specs.declared.alloc.Global.{Global}
use Rattle.std.proofs.lemmas.List.{map-append}
use Rattle.text_values.specs.TestValue.{content_of}
use Rattle.meaning.specs.Sets.{IsListOf}
use Rattle.meaning.specs.Names.{Name}
use Rattle.meaning.specs.Executions.{Event, IsOrder}
use Rattle.plain_runs.specs.Runs.{run_as}
use Rattle.plain_events.specs.declared.event.Event as code
use Rattle.plain_events.specs.Events.{of_runs}
use Rattle.plain_executions.specs.Executions.{event_lists_as, order_lists_as}
use Rattle.plain_executions.proofs.Pairing.{zipped_more}
use Rattle.plain_executions.proofs.order.all_orders.Goals as goal

pub loop-location-preserved : goal.loop-location-preserved
loop-location-preserved c =
    zipped_more
    (λ (n : Name) (os : List (List Event)). IsListOf (IsOrder (content_of c.args.test.now) (of_runs (map run_as c.args.runs.now)) n) os)
    (λ (n : Bor (List ℕ)). n.now) c.args.locations.now c.loop-location.location-index
    (record { ref_ptr = (0, 0); now = [] })
    (order_lists_as c.loop-location.lists.items) (order_lists_as c.push.new.self.items)
    (event_lists_as c.in_ok-orders.orders.items) c.loop-location-test.true c.loop-location.invariant
    c.in_ok-orders.ensures
    (ap (λ (l : List (Vec (Vec code.Event Global) Global)). order_lists_as l) c.in_ok-push.ensures.items
    ∙ map-append (λ (v : Vec (Vec code.Event Global) Global). event_lists_as v.items) c.loop-location.lists.items (c.in_ok-orders.orders ∷ []))
