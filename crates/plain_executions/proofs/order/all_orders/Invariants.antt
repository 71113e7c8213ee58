use Rattle.std.proofs.Common.{map, take}
use Rattle.std.specs.List.{AllZip}
use Rattle.text_values.specs.TestValue.{content_of}
use Rattle.meaning.specs.Sets.{IsListOf}
use Rattle.meaning.specs.Executions.{IsOrder}
use Rattle.plain_runs.specs.Runs.{run_as}
use Rattle.plain_runs.specs.Locations.{names_as}
use Rattle.plain_events.specs.Events.{of_runs}
use Rattle.plain_executions.specs.Executions.{order_lists_as}
use Rattle.plain_executions.proofs.order.all_orders.Given as goal

abbrev pub invariant-loop-location : goal.invariant-loop-location
invariant-loop-location l =
    AllZip (λ n os. IsListOf (IsOrder (content_of l.test) (of_runs (map run_as l.runs)) n) os)
    (take l.location-index (names_as l.locations)) (order_lists_as l.lists.items)
