-- Orders of kept rows leave out just orders with a row that is refused.
use Rattle.std.proofs.Common.{ℕ, ◌≡◌, ◌<◌, ◌+◌, ◌++◌, ◌∙◌, zero, suc, List, [], ◌∷◌, map, length, get_or, refl, sym, ap, subst, arith, append_assoc}
use Rattle.std.specs.List.{flat_map}
use Rattle.binding_graph.specs.declared.resolved.ResolvedItem.{ResolvedItem}
use Rattle.store_orders.specs.Lists.{each_behind}
use Rattle.store_orders.specs.Orders.{all_orders, stores_of}
use Rattle.store_orders.specs.Rows.{rows_of}
use Rattle.store_orders.specs.declared.combination.Combination.{Combination}
use Rattle.store_orders.proofs.Rows.{rows_some}
use Rattle.whole_outcomes.specs.Sublists.{LeavesOut, nothing_left, stays, is_left}
use Rattle.cut_spaces.specs.Rows.{IsRowRefused, KeepsRows, IsRefusedByRow, KeepsOrders}

nothing_behind : (xs : List ℕ) → xs ≡ xs ++ []
nothing_behind [] = refl
nothing_behind (x ∷ xs) = ap (λ (ys : List ℕ). x ∷ ys) (nothing_behind xs)

module _ (r : ResolvedItem) (c : Combination) where
  abbrev RowsFrom : ℕ → List (List ℕ) → ℕ → List (List ℕ) → Type 0
  RowsFrom i xs j ys = LeavesOut (λ i x j y. x ≡ y) (λ i row. IsRowRefused r c row) i xs j ys

  abbrev OrdersFrom : ℕ → List (List ℕ) → ℕ → List (List ℕ) → Type 0
  OrdersFrom i xs j ys = LeavesOut (λ i x j y. x ≡ y) (λ i order. IsRefusedByRow r c order) i xs j ys

  -- wherever the indexes begin
  abbrev Leaves : List (List ℕ) → List (List ℕ) → Type 0
  Leaves xs ys = (i j : ℕ) → OrdersFrom i xs j ys

  -- kept rows behind an order that stays
  some_rows : (x y : List ℕ) → x ≡ y → {k l : ℕ} {rows kept : List (List ℕ)}
      → RowsFrom k rows l kept → (xs ys : List (List ℕ)) → Leaves xs ys
      → Leaves (map (λ s. x ++ s) rows ++ xs) (map (λ s. y ++ s) kept ++ ys)
  some_rows x y e nothing_left xs ys rest = rest
  some_rows x y e (stays {x = row} {y = other} same more) xs ys rest = λ i j.
      stays (ap (λ (s : List ℕ). x ++ s) same ∙ ap (λ (s : List ℕ). s ++ other) e)
      (some_rows x y e more xs ys rest (i + 1) (j + 1))
  some_rows x y e (is_left {x = row} gone more) xs ys rest = λ i j.
      is_left (record {
        before = x;
        row = row;
        behind = [];
        is = nothing_behind (x ++ row);
        refused = gone;
      }) (some_rows x y e more xs ys rest (i + 1) j)

  -- rows behind an order that is left out
  no_rows : (x : List ℕ) → IsRefusedByRow r c x → (rows xs ys : List (List ℕ)) → Leaves xs ys
      → Leaves (map (λ s. x ++ s) rows ++ xs) ys
  no_rows x h [] xs ys rest = rest
  no_rows x h (row ∷ rows) xs ys rest = λ i j.
      is_left (record {
        before = h.before;
        row = h.row;
        behind = h.behind ++ row;
        is = ap (λ (zs : List ℕ). zs ++ row) h.is ∙ append_assoc (h.before ++ h.row) h.behind row;
        refused = h.refused;
      }) (no_rows x h rows xs ys rest (i + 1) j)

  all_rows : (rows kept : List (List ℕ)) → KeepsRows r c rows kept → {i j : ℕ}
      {xs ys : List (List ℕ)} → OrdersFrom i xs j ys
      → Leaves (flat_map (each_behind rows) xs) (flat_map (each_behind kept) ys)
  all_rows rows kept keeps nothing_left = λ i j. nothing_left
  all_rows rows kept keeps (stays {x = x} {y = y} {xs = xs} {ys = ys} e rest) =
      some_rows x y e keeps (flat_map (each_behind rows) xs) (flat_map (each_behind kept) ys)
      (all_rows rows kept keeps rest)
  all_rows rows kept keeps (is_left {x = x} {xs = xs} {ys = ys} gone rest) =
      no_rows x gone rows (flat_map (each_behind rows) xs) (flat_map (each_behind kept) ys)
      (all_rows rows kept keeps rest)

  -- one location more
  pub one_location : (n : ℕ) (rows orders next : List (List ℕ))
      → KeepsRows r c (rows_of c.events.items n) rows
      → KeepsOrders r c (all_orders c.events.items n) orders
      → next ≡ flat_map (each_behind rows) orders
      → KeepsOrders r c (all_orders c.events.items (n + 1)) next
  one_location n rows orders next keeps kept e =
      let more : KeepsOrders r c (all_orders c.events.items (suc n)) (flat_map (each_behind rows) orders) =
      all_rows (rows_of c.events.items n) rows keeps kept 0 0 in
      subst (λ (l : List (List ℕ)). KeepsOrders r c (all_orders c.events.items (n + 1)) l) (sym e)
      (subst (λ (m : ℕ). KeepsOrders r c (all_orders c.events.items m) (flat_map (each_behind rows) orders))
      (let s : suc n ≡ n + 1 = omega arith in s) more)

  pub no_location : KeepsOrders r c (all_orders c.events.items 0) ([] ∷ [])
  no_location = stays refl nothing_left

  -- each kept row has a store
  positive : {i j : ℕ} {rows kept : List (List ℕ)} → RowsFrom i rows j kept
      → ((k : ℕ) (d : List ℕ) → k < length rows → 0 < length (get_or rows k d)) → (k : ℕ)
      (d : List ℕ) → k < length kept → 0 < length (get_or kept k d)
  positive nothing_left h k d lt = absurd (omega (arith, lt))
  positive (stays {x = x} {y = y} e rest) h zero d lt =
      subst (λ (z : List ℕ). 0 < length z) e (h 0 d (omega arith))
  positive (stays e rest) h (suc k) d lt =
      positive rest (λ l f inside. h (suc l) f (omega (arith, inside))) k d (omega (arith, lt))
  positive (is_left gone rest) h k d lt =
      positive rest (λ l f inside. h (suc l) f (omega (arith, inside))) k d lt

  pub rows_positive : (n : ℕ) (rows : List (List ℕ)) → KeepsRows r c (rows_of c.events.items n) rows
      → (k : ℕ) (d : List ℕ) → k < length rows → 0 < length (get_or rows k d)
  rows_positive n rows keeps = positive keeps (rows_some n (stores_of c.events.items n))
