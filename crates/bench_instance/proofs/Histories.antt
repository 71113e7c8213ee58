-- The histories of items, where they stand.
use Rattle.std.proofs.Common.{◌≡◌, ◌⊎◌, ℕ, zero, suc, ◌+◌, ◌<◌, ◌≤◌, inl, inr, List, [], ◌∷◌, length, get_or, Option, refl, arith}
use Rattle.std.specs.Prelude.{◌==◌}
use Rattle.std.specs.List.{position_or_len}
use Rattle.std.proofs.lemmas.Bool.{cases_Bool}
use Rattle.bench_items.specs.declared.items.SharedItem.{SharedItem}
use Rattle.bench_items.specs.Items.{held_history}
use Rattle.bench_nodes.specs.declared.table.ItemRow.{ItemRow}
use Rattle.bench_slots.specs.Slots.{item_history}

-- that of the first item of the number
pub history_at : (rows : List ItemRow) (roles : List (Option SharedItem)) (number index : ℕ)
    (d : Option SharedItem)
    → index ≡ position_or_len (λ r. r.number == number) rows → index < length rows
    → index < length roles
    → held_history (get_or roles index d) ≡ item_history rows roles number
history_at [] roles number index d is lt lt' = absurd (omega (arith, lt))
history_at (x ∷ xs) [] number index d is lt lt' = absurd (omega (arith, lt'))
history_at (x ∷ xs) (r ∷ rs) number zero d is lt lt' = elim (cases_Bool (x.number == number)) [
  | inl t ↦ rw t refl
  | inr f ↦ absurd (omega (arith, rw f at is))
]
history_at (x ∷ xs) (r ∷ rs) number (suc i) d is lt lt' = elim (cases_Bool (x.number == number)) [
  | inl t ↦ absurd (omega (arith, rw t at is))
  | inr f ↦ (
      let behind : suc i ≡ 1 + position_or_len (λ r. r.number == number) xs = rw f at is in
      rw f (history_at xs rs number i d (omega (arith, behind)) (omega (arith, lt))
      (omega (arith, lt'))))
]

-- no item has the number, or nothing was ever known of the first that has it
pub no_history : (rows : List ItemRow) (roles : List (Option SharedItem)) (number index : ℕ)
    → index ≡ position_or_len (λ r. r.number == number) rows
    → (length rows ≤ index) ⊎ (length roles ≤ index) → [] ≡ item_history rows roles number
no_history [] roles number index is past = refl
no_history (x ∷ xs) [] number index is past = refl
no_history (x ∷ xs) (r ∷ rs) number zero is (inl le) = absurd (omega (arith, le))
no_history (x ∷ xs) (r ∷ rs) number zero is (inr le) = absurd (omega (arith, le))
no_history (x ∷ xs) (r ∷ rs) number (suc i) is past = elim (cases_Bool (x.number == number)) [
  | inl t ↦ absurd (omega (arith, rw t at is))
  | inr f ↦ (
      let behind : suc i ≡ 1 + position_or_len (λ r. r.number == number) xs = rw f at is in
      let then : (length xs ≤ i) ⊎ (length rs ≤ i) = elim past [
        | inl le ↦ inl (omega (arith, le))
        | inr le ↦ inr (omega (arith, le))
      ] in
      rw f (no_history xs rs number i (omega (arith, behind)) then))
]
