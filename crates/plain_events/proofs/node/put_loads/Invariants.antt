use Rattle.std.proofs.Common.{◌≡◌, ◌++◌, map, drop}
use Rattle.meaning.specs.Executions.{loads_from}
use Rattle.plain_runs.specs.Runs.{instance_as}
use Rattle.plain_events.specs.Events.{event_as}
use Rattle.plain_events.proofs.node.put_loads.Given as goal

abbrev pub invariant-loop-index : goal.invariant-loop-index
invariant-loop-index l =
    map event_as l.loads.items
    ++ loads_from l.thread l.index (drop l.index (map instance_as l.instances))
    ≡ map event_as l.initial.loads.items ++ loads_from l.thread 0 (map instance_as l.instances)
