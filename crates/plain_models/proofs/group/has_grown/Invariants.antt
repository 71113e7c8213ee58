use Rattle.std.proofs.Common.{◌↔◌, drop}
use Rattle.plain_models.specs.Groups.{HasGrown}
use Rattle.plain_models.proofs.group.has_grown.Given as goal

abbrev pub invariant-loop-index : goal.invariant-loop-index
invariant-loop-index l =
    HasGrown l.values l.next ↔ HasGrown (drop l.index l.values) (drop l.index l.next)
