use Rattle.std.proofs.Common.{◌≡◌, take}
use Rattle.std.specs.List.{AllByRecursion as Each}
use Rattle.watch_run.specs.Boards.{lists_of, shown_lines, IsClosedBy}
use Rattle.watch_run.proofs.lines.lines_now.Given as goal

-- the lines of the files so far, whose cells are closed
abbrev pub invariant-loop-name : goal.invariant-loop-name
invariant-loop-name g l =
    record {
      lines : lists_of l.lines.items ≡ shown_lines l.view l.models (take l.name-index l.names);
      closed : Each (IsClosedBy l.view l.models) (take l.name-index l.names);
    }
