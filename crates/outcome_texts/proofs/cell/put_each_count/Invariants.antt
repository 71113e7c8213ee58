use Rattle.std.proofs.Common.{◌≡◌, ◌++◌, take}
use Rattle.std.specs.List.{flat_map}
use Rattle.outcome_texts.specs.Cells.{count_line}
use Rattle.outcome_texts.proofs.cell.put_each_count.Given as goal

abbrev pub invariant-loop-state : goal.invariant-loop-state
invariant-loop-state l =
    l.text.items ≡ l.initial.text.items ++ flat_map count_line (take l.state-index l.states)
