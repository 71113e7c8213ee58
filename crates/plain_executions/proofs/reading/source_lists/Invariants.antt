use Rattle.std.proofs.Common.{map, take}
use Rattle.std.specs.List.{AllZip}
use Rattle.text_values.specs.TestValue.{content_of}
use Rattle.meaning.specs.Sets.{IsListOf}
use Rattle.meaning.specs.Executions.{MayRead}
use Rattle.plain_runs.specs.Runs.{run_as}
use Rattle.plain_events.specs.Events.{event_as, of_runs}
use Rattle.plain_executions.specs.Executions.{event_lists_as}
use Rattle.plain_executions.proofs.reading.source_lists.Given as goal

abbrev pub invariant-loop-load : goal.invariant-loop-load
invariant-loop-load l =
    AllZip (λ e es. IsListOf (MayRead (content_of l.test) (of_runs (map run_as l.runs)) e) es)
    (take l.load-index (map event_as l.loads)) (event_lists_as l.lists.items)
