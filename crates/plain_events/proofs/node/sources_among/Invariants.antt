use Rattle.std.proofs.Common.{map}
use Rattle.text_values.specs.TestValue.{content_of}
use Rattle.meaning.specs.Sets.{IsListOf}
use Rattle.meaning.specs.Executions.{MayRead}
use Rattle.plain_runs.specs.Runs.{run_as}
use Rattle.plain_runs.proofs.Counting.{Kept}
use Rattle.plain_events.specs.Events.{event_as, of_runs}
use Rattle.plain_events.proofs.node.sources_among.Given as goal

abbrev pub invariant-loop-event : goal.invariant-loop-event
invariant-loop-event l =
    IsListOf
    (Kept (MayRead (content_of l.test) (of_runs (map run_as l.runs)) (event_as l.load)) (map event_as l.all) l.event-index)
    (map event_as l.stores.items)
