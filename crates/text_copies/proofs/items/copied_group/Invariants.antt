use Rattle.std.proofs.Common.{◌≡◌, map, take}
use Rattle.text_values.specs.ModelValues.{binding_of}
use Rattle.text_copies.proofs.items.copied_group.Given as goal

abbrev pub invariant-loop-binding : goal.invariant-loop-binding
invariant-loop-binding l =
    map binding_of l.copies.items ≡ map binding_of (take l.binding-index l.group)
