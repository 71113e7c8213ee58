use Rattle.watch_run.proofs.Gaining.{none_read, one_read, unwatched_answered}
use Rattle.watch_run.proofs.Fronts.{on_err}
use Rattle.watch_run.proofs.answers.Run.answer_line.Goals as goal

pub returns-in_ok-memory-in-None-clause-answer : goal.returns-in_ok-memory-in-None-clause-answer
returns-in_ok-memory-in-None-clause-answer g c =
    let said = rw c.in_ok-memory-in-None.ensures.value at c.put_said.ensures in
    unwatched_answered _ _ _ _ _ c.in-None.ensures.file (rw c.new-text.ensures.items at said)

pub returns-in-Some-clause-readings : goal.returns-in-Some-clause-readings
returns-in-Some-clause-readings g c = on_err _ _ (one_read _ _ _ c.version-version.ensures)

pub returns-in_err-memory-in-None-clause-readings : goal.returns-in_err-memory-in-None-clause-readings
returns-in_err-memory-in-None-clause-readings g c = on_err _ _ (none_read _)
