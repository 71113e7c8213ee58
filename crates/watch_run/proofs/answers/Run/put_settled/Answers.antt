use Rattle.std.proofs.Common.{◌∙◌}
use Rattle.watch_run.proofs.Gaining.{lines_settled}
use Rattle.watch_run.proofs.answers.Run.put_settled.Goals as goal

pub returns-clause-settled : goal.returns-clause-settled
returns-clause-settled g c =
    lines_settled _ _ _ _ _ _ c.args.self.now.lines c.in_ok-jobs.lines _ _ _ _ _
    c.in_ok-jobs.jobs _ _
    (c.deref.ensures.value ∙ (rw c.in_ok-models.ensures.value at c.bench_model_names.ensures))
    c.in_ok-jobs.ensures.texts c.in_ok-jobs.ensures.names c.in_ok-jobs.ensures.lines
    c.deref-2.ensures.value c.deref-3.ensures.value c.in_ok-jobs.ensures.counted
    (rw c.in_ok-memory.ensures.value at c.put_answer.ensures)
