-- A row of stores that stands in an order of stores has no pair that the order lacks.
use Rattle.std.proofs.Common.{ℕ, ◌≡◌, ◌+◌, ◌++◌, zero, suc, List, [], ◌∷◌, length, take, Some, subst, arith}
use Rattle.std.specs.Prelude.{slice_get}
use Rattle.std.proofs.lemmas.Option.{slice_get_within}
use Rattle.base_names.specs.Events.{SameLocation, loads_in}
use Rattle.store_orders.specs.declared.combination.Combination.{Combination}
use Rattle.store_orders.specs.declared.combination.Event.{Event}
use Rattle.order_growth.specs.Laws.{RowsLieWithin}

in_front : (row behind : List ℕ) (i x : ℕ) → slice_get row i ≡ Some x
    → slice_get (row ++ behind) i ≡ Some x
in_front [] behind i x at = absurd (let lt = slice_get_within [] i x at in omega (arith, lt))
in_front (y ∷ row) behind zero x at = at
in_front (y ∷ row) behind (suc i) x at = in_front row behind i x at

-- an index of the row is one of the order
stands_at : (before row behind : List ℕ) (i k x : ℕ) → k ≡ length before + i
    → slice_get row i ≡ Some x → slice_get (before ++ row ++ behind) k ≡ Some x
stands_at [] row behind i k x is at =
    let same : i ≡ k = omega (arith, is) in
    subst (λ (j : ℕ). slice_get (row ++ behind) j ≡ Some x) same (in_front row behind i x at)
stands_at (y ∷ before) row behind i zero x is at = absurd (omega (arith, is))
stands_at (y ∷ before) row behind i (suc k) x is at =
    stands_at before row behind i k x (omega (arith, is)) at

pub row_within : (c d : Combination) → RowsLieWithin c d
row_within c d reads before row behind events dependencies = record {
  events = events;
  dependencies = dependencies;
  reads = λ a b h. absurd (let lt = slice_get_within [] (loads_in (take b c.events.items)) a h.1 in omega (arith, lt));
  coherence = λ a b (i, h). (
    length before + i,
    (
      length before + h.0,
      omega (arith, h.1),
      stands_at before row behind i (length before + i) a (omega arith) h.2,
      stands_at before row behind h.0 (length before + h.0) b (omega arith) h.3,
      subst (λ (es : List Event). SameLocation es a b) events h.4,
    ),
  );
}
