use Rattle.std.proofs.Common.{◌≡◌, map, take}
use Rattle.plain_models.specs.Groups.{name_of}
use Rattle.plain_models.proofs.group.group_names.Given as goal

abbrev pub invariant-loop-binding : goal.invariant-loop-binding
invariant-loop-binding l = l.names.items ≡ map name_of (take l.binding-index l.group)
