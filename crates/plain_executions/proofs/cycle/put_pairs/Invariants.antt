use Rattle.std.proofs.Common.{◌≡◌, ◌<◌, map}
use Rattle.meaning_plain.specs.Lists.{Grows}
use Rattle.plain_runs.specs.Runs.{run_as}
use Rattle.plain_events.specs.Events.{event_as}
use Rattle.plain_executions.specs.Executions.{AreRelated, NeedOrReadsOf}
use Rattle.plain_executions.proofs.cycle.put_pairs.Given as goal

abbrev pub invariant-loop-to : goal.invariant-loop-to
invariant-loop-to l =
    Grows (λ p. (p.0 ≡ l.from) × (p.1 < l.to) × AreRelated (NeedOrReadsOf (map run_as l.runs) (map event_as l.reads_from)) (map event_as l.nodes) l.from p.1)
    l.initial.pairs.items l.pairs.items
