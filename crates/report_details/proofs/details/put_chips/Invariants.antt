use Rattle.std.proofs.Common.{◌≡◌, ◌++◌, take}
use Rattle.std.specs.List.{flat_map}
use Rattle.report_details.specs.Details.{chip_of}
use Rattle.report_details.proofs.details.put_chips.Given as goal

abbrev pub invariant-loop-first : goal.invariant-loop-first
invariant-loop-first l =
    l.text.items
    ≡ l.initial.text.items
    ++ flat_map (chip_of l.models l.groups l.outcomes) (take l.first-index l.firsts)
