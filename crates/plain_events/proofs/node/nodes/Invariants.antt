use Rattle.std.proofs.Common.{map}
use Rattle.meaning.specs.Sets.{IsListOf}
use Rattle.plain_runs.specs.Runs.{run_as}
use Rattle.plain_runs.specs.Locations.{names_as}
use Rattle.plain_events.specs.Events.{event_as}
use Rattle.plain_events.proofs.Standing.{IsNodeBelow}
use Rattle.plain_events.proofs.node.nodes.Given as goal

abbrev pub invariant-loop-thread : goal.invariant-loop-thread
invariant-loop-thread l =
    IsListOf (IsNodeBelow (names_as l.locations) (map run_as l.runs) l.thread)
    (map event_as l.nodes.items)
