use Rattle.std.proofs.Common.{◌≡◌, ◌++◌, take, map}
use Rattle.std.specs.List.{flat_map}
use Rattle.report_details.specs.StateTable.{state_row}
use Rattle.report_details.proofs.state_table.put_each_row.Given as goal

abbrev pub invariant-loop-state : goal.invariant-loop-state
invariant-loop-state l =
    l.text.items
    ≡ l.initial.text.items
    ++ flat_map (state_row l.outcomes l.firsts) (map (λ s. s.now) (take l.state-index l.states))
