use Rattle.std.proofs.Common.{◌≡◌, ◌++◌, take}
use Rattle.std.specs.List.{flat_map}
use Rattle.report_details.specs.Details.{flag_text}
use Rattle.report_details.proofs.details.put_flag_lines.Given as goal

abbrev pub invariant-loop-flag : goal.invariant-loop-flag
invariant-loop-flag l =
    l.text.items ≡ l.initial.text.items ++ flat_map (flag_text l.model) (take l.flag-index l.flags)
