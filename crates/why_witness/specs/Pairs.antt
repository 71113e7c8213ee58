-- The pairs of a name in a candidate.
use Rattle.std.specs.Prelude.{ℕ, ◌≡◌, Some, slice_get}
use Rattle.bit_rows.specs.Relation.{Relation, Has}
use Rattle.cat_machine.specs.declared.column.Column.{Column}
use Rattle.cat_machine.specs.declared.column.Column.TheVariants as columns

-- the relation that is the column's value in the candidate of number k has the pair
abbrev pub HasPair : Column → ℕ → ℕ → ℕ → Type 0
HasPair (columns.Sets values) k a b = ⊥
HasPair (columns.Relations values) k a b =
    (r : Relation) × (slice_get values k ≡ Some r) × Has r a b
