use Rattle.std.proofs.Common.{map, take}
use Rattle.plain_events.specs.Events.{event_as}
use Rattle.plain_executions.specs.Executions.{execution_as}
use Rattle.plain_names.specs.Related.{IsFromReadsAmong}
use Rattle.plain_names.proofs.related.is_fr_among.Given as goal

abbrev pub invariant-loop-store : goal.invariant-loop-store
invariant-loop-store l =
    IsFromReadsAmong (take l.store-index (map event_as l.stores)) (execution_as l.execution) (event_as l.first) (event_as l.second)
    → ⊥
