use Rattle.std.proofs.Common.{◌≡◌, take}
use Rattle.std.specs.List.{flat_map}
use Rattle.report_details.specs.Groups.{key}
use Rattle.report_details.proofs.groups.keys_text.Given as goal

abbrev pub invariant-loop-group : goal.invariant-loop-group
invariant-loop-group l =
    l.keys.items ≡ flat_map key (take l.group-index l.groups)
