-- Products of kept rows leave out just the orders with another row.
use Rattle.std.proofs.Common.{ℕ, ◌≡◌, ◌+◌, ◌++◌, ◌∙◌, zero, suc, List, [], ◌∷◌, map, Bool, true, false, cond, refl, sym, ap, subst, arith, append_assoc}
use Rattle.std.specs.Prelude.{filter, Contains}
use Rattle.std.specs.List.{flat_map}
use Rattle.store_orders.specs.Lists.{each_behind}
use Rattle.store_orders.specs.Orders.{all_orders}
use Rattle.store_orders.specs.Rows.{rows_of}
use Rattle.store_orders.specs.declared.combination.Event.{Event}
use Rattle.whole_outcomes.specs.Kept.{kept_orders, HasRefusedRow}
use Rattle.whole_outcomes.specs.KeptRows.{OrdersHaveKeptRows}
use Rattle.whole_outcomes.specs.Sublists.{LeavesOut, nothing_left, stays, is_left}

nothing_behind : (xs : List ℕ) → xs ≡ xs ++ []
nothing_behind [] = refl
nothing_behind (x ∷ xs) = ap (λ (ys : List ℕ). x ∷ ys) (nothing_behind xs)

later : (rows : List (List ℕ)) (r x : List ℕ) → Contains rows x → Contains (r ∷ rows) x
later rows r x h = (suc h.0, omega (arith, h.1), h.2)

module _ (kept : ℕ → List ℕ → Bool) (events : List Event) where
  -- the second list leaves out orders with a row that is not kept, wherever the indexes begin
  abbrev Leaves : ℕ → List (List ℕ) → List (List ℕ) → Type 0
  Leaves n xs ys =
      (i j : ℕ) → LeavesOut (λ k x l y. x ≡ y) (λ k x. HasRefusedRow kept events n x) i xs j ys

  module _ (n : ℕ) where
    -- one row behind an order that stays
    one_row : (b : Bool) → (x r : List ℕ) → kept n r ≡ b → Contains (rows_of events n) r
        → (xs ys : List (List ℕ)) → Leaves (suc n) xs ys
        → Leaves (suc n) ((x ++ r) ∷ xs) (cond b ((x ++ r) ∷ ys) ys)
    one_row true x r e there xs ys rest = λ i j. stays refl (rest (i + 1) (j + 1))
    one_row false x r e there xs ys rest = λ i j.
        is_left (record {
          location = n;
          below = omega arith;
          before = x;
          row = r;
          behind = [];
          is = nothing_behind (x ++ r);
          there = there;
          refused = e;
        }) (rest (i + 1) j)

    with_cond : (b : Bool) (x r : List ℕ) (rows ys : List (List ℕ))
        → map (λ s. x ++ s) (cond b (r ∷ rows) rows) ++ ys
        ≡ cond b ((x ++ r) ∷ (map (λ s. x ++ s) rows ++ ys)) (map (λ s. x ++ s) rows ++ ys)
    with_cond true x r rows ys = refl
    with_cond false x r rows ys = refl

    -- some of the rows behind an order that stays
    some_rows : (x : List ℕ) (rows : List (List ℕ))
        → ((r : List ℕ) → Contains rows r → Contains (rows_of events n) r) → (xs ys : List (List ℕ))
        → Leaves (suc n) xs ys
        → Leaves (suc n) (map (λ r. x ++ r) rows ++ xs) (map (λ r. x ++ r) (filter (kept n) rows) ++ ys)
    some_rows x [] among xs ys rest = rest
    some_rows x (r ∷ rows) among xs ys rest =
        subst
        (λ (zs : List (List ℕ)). Leaves (suc n) ((x ++ r) ∷ (map (λ s. x ++ s) rows ++ xs)) zs)
        (sym (with_cond (kept n r) x r (filter (kept n) rows) ys))
        (one_row (kept n r) x r refl (among r (0, omega arith, refl)) (map (λ s. x ++ s) rows ++ xs)
        (map (λ s. x ++ s) (filter (kept n) rows) ++ ys)
        (some_rows x rows (λ s h. among s (later rows r s h)) xs ys rest))

    -- rows behind an order that is left out
    no_rows : (x : List ℕ) → HasRefusedRow kept events n x → (rows xs ys : List (List ℕ))
        → Leaves (suc n) xs ys → Leaves (suc n) (map (λ r. x ++ r) rows ++ xs) ys
    no_rows x h [] xs ys rest = rest
    no_rows x h (r ∷ rows) xs ys rest = λ i j.
        is_left (record {
          location = h.location;
          below = omega (arith, h.below);
          before = h.before;
          row = h.row;
          behind = h.behind ++ r;
          is = ap (λ (zs : List ℕ). zs ++ r) h.is ∙ append_assoc (h.before ++ h.row) h.behind r;
          there = h.there;
          refused = h.refused;
        }) (no_rows x h rows xs ys rest (i + 1) j)

    all_rows : {i j : ℕ} {xs ys : List (List ℕ)}
        → LeavesOut (λ k x l y. x ≡ y) (λ k x. HasRefusedRow kept events n x) i xs j ys
        → Leaves (suc n) (flat_map (each_behind (rows_of events n)) xs)
        (flat_map (each_behind (filter (kept n) (rows_of events n))) ys)
    all_rows nothing_left = λ i j. nothing_left
    all_rows (stays {x = x} {y = y} {xs = xs} {ys = ys} e rest) =
        rw (← e) (some_rows x (rows_of events n) (λ r h. h)
        (flat_map (each_behind (rows_of events n)) xs)
        (flat_map (each_behind (filter (kept n) (rows_of events n))) ys) (all_rows rest))
    all_rows (is_left {x = x} {xs = xs} {ys = ys} h rest) =
        no_rows x h (rows_of events n) (flat_map (each_behind (rows_of events n)) xs)
        (flat_map (each_behind (filter (kept n) (rows_of events n))) ys) (all_rows rest)

  orders_left : (n : ℕ) → Leaves n (all_orders events n) (kept_orders kept events n)
  orders_left zero = λ i j. stays refl nothing_left
  orders_left (suc n) = all_rows n (orders_left n 0 0)

pub orders_kept : (events : List Event) → OrdersHaveKeptRows events
orders_kept events kept n = orders_left kept events n 0 0
