use Rattle.std.proofs.Common.{◌≡◌, ◌++◌, take}
use Rattle.watch_run.specs.Lines.{changed_lines}
use Rattle.watch_run.specs.Boards.{lists_of}
use Rattle.watch_run.proofs.lines.put_changed_lines.Given as goal

-- the lines that changed so far
abbrev pub invariant-loop-index : goal.invariant-loop-index
invariant-loop-index l =
    l.text.items
    ≡ l.initial.text.items ++ changed_lines (lists_of l.lasts) (take l.index (lists_of l.nows))
