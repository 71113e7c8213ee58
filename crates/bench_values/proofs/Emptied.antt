-- Columns without a value are one.
use Rattle.std.proofs.Common.{ℕ, zero, suc, ◌≡◌, [], ◌∷◌, refl}
use Rattle.binding_kinds.specs.declared.kinds.Kind.TheVariants as kinds
use Rattle.cat_machine.specs.declared.column.Column.{Column}
use Rattle.cat_machine.specs.declared.column.Column.TheVariants as columns
use Rattle.cat_machine.specs.Values.{IsFor, column_len}
use Rattle.bench_values.specs.Values.{column_of}

pub without_values : (c d : Column) → column_len c ≡ 0 → IsFor kinds.OfSet d → column_len d ≡ 0
    → d ≡ column_of (column_len c) c
without_values c (columns.Sets []) none sets empty = rw none refl
without_values c (columns.Sets (v ∷ vs)) none sets empty = absurd cc
without_values c (columns.Relations vs) none sets empty = absurd sets

pub with_values : (c : Column) → (column_len c ≡ 0 → ⊥) → c ≡ column_of (column_len c) c
with_values c some = at_length (column_len c) some
  where
    at_length : (n : ℕ) → (n ≡ 0 → ⊥) → c ≡ column_of n c
    at_length zero none = absurd (none refl)
    at_length (suc n) none = refl
