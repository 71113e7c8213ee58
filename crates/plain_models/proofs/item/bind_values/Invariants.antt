use Rattle.std.proofs.Common.{map, take}
use Rattle.plain_models.specs.Groups.{name_of}
use Rattle.plain_models.specs.Items.{GrowsBy}
use Rattle.plain_models.proofs.item.bind_values.Given as goal

abbrev pub invariant-loop-index : goal.invariant-loop-index
invariant-loop-index l =
    GrowsBy (map name_of (take l.index l.group)) (take l.index l.values) l.initial.outer.items
    l.outer.items
