use Rattle.std.proofs.Common.{◌≡◌, take}
use Rattle.plain_executions.specs.Executions.{event_lists_as}
use Rattle.plain_executions.proofs.execution.copied_lists.Given as goal

abbrev pub invariant-loop-list : goal.invariant-loop-list
invariant-loop-list l =
    event_lists_as l.copies.items ≡ event_lists_as (take l.list-index l.lists)
