use Rattle.std.proofs.Common.{map}
use Rattle.text_values.specs.TestValue.{content_of}
use Rattle.meaning.specs.Executions.{IsEvent}
use Rattle.plain_runs.proofs.Counting.{kept_step, kept_end}
use Rattle.plain_runs.specs.Runs.{run_as}
use Rattle.plain_events.specs.Events.{event_as, of_runs}
use Rattle.plain_names.specs.Seen.{seen_event, seen_events}
use Rattle.plain_names.proofs.seen.seen_among.Goals as goal

pub loop-event-preserved : goal.loop-event-preserved
loop-event-preserved c = record {
  listed = kept_step event_as (IsEvent (content_of c.args.test.now) (of_runs (map run_as c.args.runs.now)))
      c.args.all.now c.loop-event.event-index _ (map seen_event c.loop-event.seen.items)
      (map seen_event c.put_seen.new.seen.items) c.loop-event-test.true c.requires.once
      c.loop-event.invariant.listed c.in_ok-put_seen.ensures.puts;
  actions = c.in_ok-put_seen.ensures.actions;
}

pub returns : goal.returns
returns c = record {
  listed = kept_end event_as (IsEvent (content_of c.args.test.now) (of_runs (map run_as c.args.runs.now)))
      c.args.all.now c.loop-event.event-index (seen_events c.loop-event.seen.items) c.loop-event-test.false
      c.loop-event.invariant.listed;
  actions = c.loop-event.invariant.actions;
}
