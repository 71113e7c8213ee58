use Rattle.memo_core.specs.Laws.{meaning}
use Rattle.cells.specs.Events.{task_given}
use Rattle.cells.specs.Stages.{tasks_in}
use Rattle.cells.proofs.Jobs.{returned}
use Rattle.cells.proofs.bench.Bench.return_of.Goals as goal

pub returns-in-Some-Ok : goal.returns-in-Some-Ok
returns-in-Some-Ok g c =
    let t = g.T.Texts in
    let made = rw c.in-Some-Ok.field-0-is at c.in-Some-Ok.ensures.made in
    record {
      answered = (
        returned (meaning t.net t.is_valid t.since t.makes t.keeps t.edited t.last) t.refuses t.last
            c.args.self.now c.finish.new.self (task_given c.args.claim (tasks_in c.args.jobs.now))
            c.finish.result c.in-Some-Ok.done made c.finish.ensures,
        c.offer_of.ensures.tasks,
      );
    }
