use Rattle.std.proofs.Common.{◌≡◌, ◌≤◌, ◌+◌, length, map, take, vec_capacity}
use Rattle.text_values.specs.ModelValues.{clause_of}
use Rattle.text_copies.proofs.items.copied_items.Given as goal

abbrev pub invariant-loop-item : goal.invariant-loop-item
invariant-loop-item l =
    (map clause_of l.copies.items ≡ map clause_of (take l.item-index l.items))
    × (length l.items + l.room ≤ vec_capacity l.copies)
