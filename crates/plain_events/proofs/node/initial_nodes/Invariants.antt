use Rattle.std.proofs.Common.{◌≡◌, map, take}
use Rattle.meaning.specs.Executions.{Initial}
use Rattle.plain_runs.specs.Locations.{names_as}
use Rattle.plain_events.specs.Events.{event_as}
use Rattle.plain_events.proofs.node.initial_nodes.Given as goal

abbrev pub invariant-loop-location : goal.invariant-loop-location
invariant-loop-location l =
    map event_as l.nodes.items ≡ map Initial (names_as (take l.location-index l.locations))
