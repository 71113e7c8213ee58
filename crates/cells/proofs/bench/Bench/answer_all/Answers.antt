use Rattle.std.proofs.Common.{◌≡◌, ◌∙◌, [], length, refl, sym, ap, arith, rules}
use Rattle.memo_core.specs.Laws.{meaning}
use Rattle.cells.specs.Stages.{tasks_in}
use Rattle.cells.proofs.Jobs.{answered_last, length_last, no_items, rest_step, rest_total, rest_end}
use Rattle.cells.proofs.bench.Bench.answer_all.Goals as goal

pub loop-event-init : goal.loop-event-init
loop-event-init g c =
    let is : c.into_iter-event-iterator.result.rest.items ≡ c.args.events.items = search rules in
    record {
      answered =
          rw (
            no_items c.args.replies.now.items (omega arith),
            no_items c.args.jobs.now.items (omega arith),
          )
          (refl, refl);
      rest = is;
      total = omega (arith, ap length is);
      replied = c.requires.replies;
      few = omega (arith, c.requires.jobs);
      replies_fit = c.requires.replies_fit;
      jobs_fit = c.requires.jobs_fit;
    }

pub loop-event-preserved : goal.loop-event-preserved
loop-event-preserved g c =
    let t = g.T.Texts in
    record {
      answered =
          rw c.in-Ok.ensures.items (answered_last
          (meaning t.net t.is_valid t.since t.makes t.keeps t.edited t.last) t.refuses t.last
          c.args.self.now c.loop-event.self c.answer-reply.new.self []
          (tasks_in c.loop-event.jobs.items)
          (tasks_in c.answer-reply.new.jobs.items) c.loop-event.yielded c.loop-event.replies.items
          c.in-Some.event c.answer-reply.result c.loop-event.invariant.answered
          c.answer-reply.ensures.answered);
      rest =
          sym (rest_step c.loop-event.yielded c.loop-event.event-iterator.rest.items
          c.next.new.self.rest.items c.in-Some.event c.in-Some.ensures.steps.0)
          ∙ c.loop-event.invariant.rest;
      total =
          rw length_last (rest_total c.loop-event.event-iterator.rest.items
          c.next.new.self.rest.items c.in-Some.event (length c.loop-event.yielded)
          (length c.args.events.items) c.in-Some.ensures.steps.0 c.loop-event.invariant.total);
      replied = rw length_last (omega (arith, c.in-Ok.ensures.len, c.loop-event.invariant.replied));
      few = rw length_last (omega (arith, c.answer-reply.ensures.len, c.loop-event.invariant.few));
      replies_fit = omega (arith, c.in-Ok.ensures.capacity, c.loop-event.invariant.replies_fit);
      jobs_fit = omega (arith, c.answer-reply.ensures.capacity, c.loop-event.invariant.jobs_fit);
    }

pub returns : goal.returns
returns g c =
    let none : length c.loop-event.event-iterator.rest.items ≡ 0 = omega (arith, c.in-None.ensures.steps.0, c.loop-event.event-iterator.rest.ok.0) in
    let all = sym (rest_end c.loop-event.yielded c.loop-event.event-iterator.rest.items none) ∙ c.loop-event.invariant.rest in
    (tasks_in c.loop-event.jobs.items, rw all at c.loop-event.invariant.answered)
