use Rattle.std.proofs.Common.{◌≡◌, ◌++◌, take}
use Rattle.std.specs.List.{flat_map}
use Rattle.report_details.specs.StateTable.{group_head}
use Rattle.report_details.proofs.state_table.put_group_heads.Given as goal

abbrev pub invariant-loop-first : goal.invariant-loop-first
invariant-loop-first l =
    l.text.items
    ≡ l.initial.text.items ++ flat_map (group_head l.models l.groups) (take l.first-index l.firsts)
