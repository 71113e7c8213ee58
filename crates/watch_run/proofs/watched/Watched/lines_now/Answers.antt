use Rattle.watch_run.proofs.Cells.{knows_still, lines_of_own}
use Rattle.watch_run.proofs.watched.Watched.lines_now.Goals as goal

pub returns-clause-lines : goal.returns-clause-lines
returns-clause-lines g c =
    lines_of_own _ _ _ _ _ c.lines.result
    (knows_still _ _ _ _ _ c.lines.ensures.begins c.lines.ensures.same c.requires.ready)
    (rw c.as_slice.ensures.value at c.lines.ensures.lines)
