use Rattle.std.proofs.Common.{◌≡◌, ◌++◌, take}
use Rattle.std.specs.List.{flat_map}
use Rattle.report_details.specs.StateTable.{count_of}
use Rattle.report_details.proofs.state_table.put_counts.Given as goal

abbrev pub invariant-loop-first : goal.invariant-loop-first
invariant-loop-first l =
    l.text.items
    ≡ l.initial.text.items ++ flat_map (count_of l.state l.outcomes) (take l.first-index l.firsts)
