use Rattle.std.proofs.Common.{map}
use Rattle.meaning.specs.Sets.{IsAcyclic, IsListOf}
use Rattle.plain_runs.specs.Runs.{run_as}
use Rattle.plain_runs.proofs.Counting.{Kept}
use Rattle.plain_executions.specs.Executions.{event_lists_as, NeedOrReadsOf}
use Rattle.plain_executions.proofs.reading.sound_among.Given as goal

abbrev pub invariant-loop-reads_from : goal.invariant-loop-reads_from
invariant-loop-reads_from l =
    IsListOf (Kept (λ es. IsAcyclic (NeedOrReadsOf (map run_as l.runs) es)) (event_lists_as l.all) l.reads_from-index)
    (event_lists_as l.kept.items)
