use Rattle.std.proofs.Common.{◌≡◌, drop}
use Rattle.cells.specs.Events.{task_given}
use Rattle.cells.specs.Stages.{tasks_in}
use Rattle.cells.proofs.stage.offer_of.Given as goal

abbrev pub invariant-loop-i : goal.invariant-loop-i
invariant-loop-i g l =
    record {
      same : l.jobs ≡ l.fn.jobs;
      rest : task_given l.claim (tasks_in (drop l.i l.fn.jobs))
          ≡ task_given l.claim (tasks_in l.fn.jobs);
    }
