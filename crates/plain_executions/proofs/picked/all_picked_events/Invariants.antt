use Rattle.std.proofs.Common.{◌≡◌, map, take}
use Rattle.plain_events.specs.Choices.{pick, lists_as}
use Rattle.plain_executions.specs.Executions.{event_lists_as}
use Rattle.plain_executions.proofs.picked.all_picked_events.Given as goal

abbrev pub invariant-loop-indexes : goal.invariant-loop-indexes
invariant-loop-indexes l =
    event_lists_as l.rows.items ≡ map (pick (event_lists_as l.lists)) (lists_as (take l.indexes-index l.all))
