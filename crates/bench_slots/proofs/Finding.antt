-- The histories of items, and the names of groups, where they lie.
use Rattle.std.proofs.Common.{ℕ, zero, suc, ◌+◌, ◌-◌, ◌==◌, ◌<◌, ◌≤◌, ◌≡◌, min, Bool, true, false, not, cond, if◌then◌else◌, List, [], ◌∷◌, length, get_or, Option, Some, None, slice_get, refl, ap, arith}
use Rattle.std.specs.List.{position_or_len}
use Rattle.std.proofs.lemmas.Option.{same_Some}
use Rattle.binding_graph.specs.declared.resolved.Body.{Body}
use Rattle.bench_items.specs.Items.{held_history}
use Rattle.bench_items.specs.Naming.{body_names}
use Rattle.bench_items.specs.declared.items.SharedItem.{SharedItem}
use Rattle.bench_nodes.specs.declared.table.ItemRow.{ItemRow}
use Rattle.bench_slots.specs.Slots.{no_name, item_history}

-- ---- histories

-- the history beside the first row of a number
pub history_at : (rows : List ItemRow) (roles : List (Option SharedItem)) (n i : ℕ)
    (r : Option SharedItem) → position_or_len (λ x. x.number == n) rows ≡ i → i < length rows
    → slice_get roles i ≡ Some r → item_history rows roles n ≡ held_history r
history_at [] roles n i r p lt at = absurd (omega (arith, lt))
history_at (x ∷ xs) [] n i r p lt at = absurd (let e : None ≡ Some r = at in cc)
history_at (x ∷ xs) (y ∷ ys) n zero r p lt at = by_test (x.number == n) p
  where
    by_test : (b : Bool) → cond (not b) (1 + position_or_len (λ x. x.number == n) xs) 0 ≡ 0
        → (if b then held_history y else item_history xs ys n) ≡ held_history r
    by_test true p = ap held_history (same_Some y r at)
    by_test false p = absurd (omega (arith, p))
history_at (x ∷ xs) (y ∷ ys) n (suc i) r p lt at =
    by_test (x.number == n) p (λ q. history_at xs ys n i r q (omega (arith, lt)) at)
  where
    by_test : (b : Bool) → cond (not b) (1 + position_or_len (λ x. x.number == n) xs) 0 ≡ suc i
        → (position_or_len (λ x. x.number == n) xs ≡ i → item_history xs ys n ≡ held_history r)
        → (if b then held_history y else item_history xs ys n) ≡ held_history r
    by_test true p later = absurd (omega (arith, p))
    by_test false p later = later (omega (arith, p))

-- there is no such row, or nothing is beside it
pub no_history : (rows : List ItemRow) (roles : List (Option SharedItem)) (n i : ℕ)
    → position_or_len (λ x. x.number == n) rows ≡ i → min (length rows) (length roles) ≤ i
    → item_history rows roles n ≡ []
no_history [] roles n i p past = refl
no_history (x ∷ xs) [] n i p past = refl
no_history (x ∷ xs) (y ∷ ys) n i p past =
    by_test (x.number == n) p (λ q l. no_history xs ys n (i - 1) q l)
  where
    by_test : (b : Bool) → cond (not b) (1 + position_or_len (λ x. x.number == n) xs) 0 ≡ i
        → (position_or_len (λ x. x.number == n) xs ≡ i - 1 → min (length xs) (length ys) ≤ i - 1
        → item_history xs ys n ≡ [])
        → (if b then held_history y else item_history xs ys n) ≡ []
    by_test true p later = absurd (omega (arith, p, past))
    by_test false p later = later (omega (arith, p)) (omega (arith, p, past))

-- ---- names

pub body_name_at : (bodies : List Body) (p : ℕ) (b : Body) → p < length bodies
    → b ≡ get_or bodies p b → b.name ≡ get_or (body_names bodies) p no_name
body_name_at [] p b lt at = absurd (omega (arith, lt))
body_name_at (x ∷ xs) zero b lt at = ap (λ (c : Body). c.name) at
body_name_at (x ∷ xs) (suc p) b lt at = body_name_at xs p b (omega (arith, lt)) at
