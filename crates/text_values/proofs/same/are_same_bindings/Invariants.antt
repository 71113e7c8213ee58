use Rattle.std.proofs.Common.{◌≡◌, ◌↔◌, map, length, drop}
use Rattle.text_values.specs.ModelValues.{binding_of}
use Rattle.text_values.proofs.same.are_same_bindings.Given as goal

abbrev pub invariant-loop-this : goal.invariant-loop-this
invariant-loop-this l =
    (map binding_of l.these ≡ map binding_of l.those)
    ↔ (map binding_of (drop (length l.yielded) l.these)
    ≡ map binding_of (drop (length l.yielded) l.those))
