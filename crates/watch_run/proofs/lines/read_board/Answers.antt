use Rattle.std.proofs.Common.{rules}
use Rattle.watch_run.proofs.Cells.{view_lines}
use Rattle.watch_run.proofs.lines.read_board.Goals as goal

pub returns-else-edit_count_in-asked-clause-lines : goal.returns-else-edit_count_in-asked-clause-lines
returns-else-edit_count_in-asked-clause-lines g c =
    view_lines _ _ _ _ _ c.lines_now-lines.result c.leave-in-Ok.ensures c.in-Ok.ensures.right
    c.in-Ok.ensures.legal (search rules) c.lines_now-lines.ensures.lines
    c.lines_now-lines.ensures.closed
