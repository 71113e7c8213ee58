use Rattle.std.proofs.Common.{◌<◌, map}
use Rattle.meaning_plain.specs.Lists.{HasPairs}
use Rattle.plain_runs.specs.Runs.{run_as}
use Rattle.plain_events.specs.Events.{event_as}
use Rattle.plain_executions.specs.Executions.{AreRelated, NeedOrReadsOf}
use Rattle.plain_executions.proofs.cycle.all_pairs.Given as goal

abbrev pub invariant-loop-from : goal.invariant-loop-from
invariant-loop-from l =
    HasPairs (λ i j. (i < l.from) × AreRelated (NeedOrReadsOf (map run_as l.runs) (map event_as l.reads_from)) (map event_as l.nodes) i j)
    l.pairs.items
