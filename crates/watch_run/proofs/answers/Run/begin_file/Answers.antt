use Rattle.watch_run.proofs.Gaining.{one_read}
use Rattle.watch_run.proofs.Fronts.{on_err}
use Rattle.watch_run.proofs.answers.Run.begin_file.Goals as goal

pub returns-in_ok-memory-in-Text-clause-begun : goal.returns-in_ok-memory-in-Text-clause-begun
returns-in_ok-memory-in-Text-clause-begun g c =
    let noted = rw c.in_ok-memory-in-Text.ensures.value at c.accept.ensures.noted in (
      c.in-Text.version,
      c.in-Text.ensures,
      c.in_ok-memory-in-Text.field-0,
      rw c.as_bytes.ensures.value at noted,
    )

pub returns-in_err-memory-in-Text-clause-readings : goal.returns-in_err-memory-in-Text-clause-readings
returns-in_err-memory-in-Text-clause-readings g c = on_err _ _ (one_read _ _ _ c.in-Text.ensures)

pub returns-in-Unread-clause-readings : goal.returns-in-Unread-clause-readings
returns-in-Unread-clause-readings g c = one_read _ _ _ c.in-Unread.ensures

pub returns-in-OutOfMemory-clause-readings : goal.returns-in-OutOfMemory-clause-readings
returns-in-OutOfMemory-clause-readings g c = one_read _ _ _ c.in-OutOfMemory.ensures

pub returns-in-Unread-clause-read : goal.returns-in-Unread-clause-read
returns-in-Unread-clause-read g c = λ e. c.in-Unread.ensures
