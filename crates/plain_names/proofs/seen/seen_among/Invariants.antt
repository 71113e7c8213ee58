use Rattle.std.proofs.Common.{All, map}
use Rattle.text_values.specs.TestValue.{content_of}
use Rattle.meaning.specs.Sets.{IsListOf}
use Rattle.meaning.specs.Executions.{IsEvent}
use Rattle.plain_runs.proofs.Counting.{Kept}
use Rattle.plain_runs.specs.Runs.{run_as}
use Rattle.plain_events.specs.Events.{event_as, of_runs}
use Rattle.plain_names.specs.Seen.{seen_events, IsSeenAs}
use Rattle.plain_names.proofs.seen.seen_among.Given as goal

abbrev pub invariant-loop-event : goal.invariant-loop-event
invariant-loop-event l = record {
  listed : IsListOf (Kept (IsEvent (content_of l.test) (of_runs (map run_as l.runs))) (map event_as l.all) l.event-index) (seen_events l.seen.items);
  actions : All (IsSeenAs (content_of l.test) (of_runs (map run_as l.runs))) l.seen.items;
}
