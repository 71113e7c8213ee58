use Rattle.std.proofs.Common.{◌≡◌, ◌+◌, ◌≤◌, ◌++◌, [], length, vec_len, vec_capacity}
use Rattle.memo_core.specs.Laws.{meaning}
use Rattle.cells.specs.Events.{AreEventsAnswered}
use Rattle.cells.specs.Stages.{tasks_in}
use Rattle.cells.proofs.bench.Bench.answer_all.Given as goal

abbrev pub invariant-loop-event : goal.invariant-loop-event
invariant-loop-event g l =
    let t = g.T.Texts in
    record {
      answered : AreEventsAnswered (meaning t.net t.is_valid t.since t.makes t.keeps t.edited t.last)
          t.refuses t.last l.fn.self [] l.yielded l.replies.items l.self (tasks_in l.jobs.items);
      rest : l.yielded ++ l.event-iterator.rest.items ≡ l.fn.events.items;
      total : length l.yielded + length l.event-iterator.rest.items ≡ length l.fn.events.items;
      replied : vec_len l.replies ≡ length l.yielded;
      few : vec_len l.jobs ≤ length l.yielded;
      replies_fit : length l.fn.events.items ≤ vec_capacity l.replies;
      jobs_fit : length l.fn.events.items ≤ vec_capacity l.jobs;
    }
