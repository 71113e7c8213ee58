use Rattle.std.proofs.Common.{ℕ, ◌≡◌, ◌<◌, Some}
use Rattle.std.specs.List.{slice_get}
use Rattle.bit_rows.specs.Relation.{IsMember}
use Rattle.base_names.proofs.reordering.has_any.Given as goal

abbrev pub invariant-loop-index : goal.invariant-loop-index
invariant-loop-index l =
    (i a : ℕ) → i < l.index → slice_get l.order i ≡ Some a → IsMember l.events a → ⊥
