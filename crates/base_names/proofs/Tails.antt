-- Coherence of one order, made of that of another order which begins alike.
use Rattle.std.proofs.Common.{ℕ, ◌≡◌, ◌<◌, ◌≤◌, ◌+◌, ◌↔◌, ◌⊎◌, ◌∙◌, List, Some, length, get_or, inl, inr, arith, sym}
use Rattle.std.specs.List.{slice_get}
use Rattle.std.proofs.lemmas.Bool.{cases_eq, cases_lt}
use Rattle.std.proofs.lemmas.Option.{slice_get-get_or, get_or_from_slice_get, slice_get_within}
use Rattle.bit_rows.specs.Relation.{Relation, Events, Has, IsRegular, IsRelation, IsMember, IsEvents}
use Rattle.bit_rows.specs.Pairs.{Union, Minus, Product}
use Rattle.store_orders.specs.declared.combination.Event.{Event}
use Rattle.base_names.specs.Events.{Below, Coherence, CoherenceFrom}
use Rattle.base_names.specs.Orders.{StandsFrom, StandsBetween, CoherenceSince, CoherenceBetween, IsTail}
use Rattle.base_names.proofs.Linking.{with_pairs, none_added, more_added, same_added}

pub with_members : {s : Events} {n : ℕ} {S T : ℕ → Type 0} → IsEvents s n S → ((a : ℕ) → S a ↔ T a)
    → IsEvents s n T
with_members s same = record {
  count = s.count;
  within = s.within;
  members = λ a. ((λ h. (same a).0 ((s.members a).0 h)), (λ h. (s.members a).1 ((same a).1 h)));
}

-- ---- the events that stand in an order

pub none_stands : {s : Events} {n : ℕ} (order : List ℕ) (from : ℕ) → IsEvents s n (λ a. ⊥)
    → IsEvents s n (λ a. (a < n) × StandsBetween order from from a)
none_stands order from h =
    with_members h (λ a. ((λ x. absurd x), (λ y. absurd (omega (arith, y.1.1, y.1.2)))))

pub stands_more : {now new : Events} {n : ℕ} (order : List ℕ) (from i event : ℕ) → from ≤ i
    → i < length order → event ≡ get_or order i 0
    → IsEvents now n (λ a. (a < n) × StandsBetween order from i a)
    → IsEvents new now.count (λ a. IsMember now a ⊎ ((a < now.count) × (a ≡ event)))
    → IsEvents new n (λ a. (a < n) × StandsBetween order from (i + 1) a)
stands_more {now} {new} {n} order from i event le inside at before step =
    with_members (counted step) (λ a. (
      (λ h. elim h [
        | inl x ↦
            let k = (before.members a).0 x in (k.0, (k.1.0, k.1.1, omega (arith, k.1.2), k.1.3))
        | inr y ↦ (y.0, (i, le, omega arith, rw (y.1, at) (slice_get-get_or order i 0 inside)))
      ]),
      (λ h.
          let k = h.1 in
          elim (cases_eq k.0 i) [
            | inl same ↦ inr (
              h.0,
              sym (get_or_from_slice_get order i a 0 (rw same at k.3)) ∙ sym at,
            )
            | inr other ↦ inl ((before.members a).1 (h.0, (k.0, k.1, below other k.2, k.3)))
          ]),
    ))
  where
    below : {b j : ℕ} → (b ≡ j → ⊥) → b < j + 1 → b < j
    below ne lt = omega arith

    counted : IsEvents new now.count (λ a. IsMember now a ⊎ ((a < now.count) × (a ≡ event)))
        → IsEvents new n (λ a. IsMember now a ⊎ ((a < n) × (a ≡ event)))
    counted = rw before.count (λ r. r)

pub stands_all : {s : Events} {n : ℕ} (order : List ℕ) (from end : ℕ) → length order ≤ end
    → IsEvents s n (λ a. (a < n) × StandsBetween order from end a)
    → IsEvents s n (λ a. (a < n) × StandsFrom order from a)
stands_all order from end whole h = with_members h (λ a. (
  (λ x. (x.0, (x.1.0, x.1.1, x.1.3))),
  (λ y. (y.0, (y.1.0, y.1.1, omega (arith, whole, slice_get_within order y.1.0 a y.1.2), y.1.2))),
))

-- ---- the pairs of an order from an index on

pub since_nothing : (r : Relation) (events : List Event) (order : List ℕ) (from : ℕ) → IsRegular r
    → IsRelation r r.count (Union (Has r) (Below r.count (CoherenceBetween events order from from)))
since_nothing r events order from regular =
    none_added r (Below r.count (CoherenceBetween events order from from)) regular
    (λ a b h. omega (arith, h.2.1, h.2.2))

pub since_more : {now new : Relation} {n : ℕ} (O : ℕ → ℕ → Type 0) (events : List Event)
    (order : List ℕ) (from i : ℕ) → from ≤ i
    → IsRelation now n (Union O (Below n (CoherenceBetween events order from i)))
    → IsRelation new now.count (Union (Has now) (Below now.count (CoherenceFrom events order i)))
    → IsRelation new n (Union O (Below n (CoherenceBetween events order from (i + 1))))
since_more {now} {n = n} O events order from i le before step =
    more_added O (Below n (CoherenceBetween events order from i))
    (Below n (CoherenceBetween events order from (i + 1)))
    (Below now.count (CoherenceFrom events order i)) before step (λ a b. (
      (λ h.
          let k = h.2 in
          elim (cases_eq k.0 i) [
            | inl same ↦ inr (
              omega (arith, h.0, before.count),
              omega (arith, h.1, before.count),
              rw same at k.3,
            )
            | inr other ↦ inl (h.0, h.1, (k.0, k.1, below other k.2, k.3))
          ]),
      (λ h. elim h [
        | inl r ↦ (r.0, r.1, (r.2.0, r.2.1, omega (arith, r.2.2), r.2.3))
        | inr t ↦ (
          omega (arith, t.0, before.count),
          omega (arith, t.1, before.count),
          (i, le, omega arith, t.2),
        )
      ]),
    ))
  where
    below : {b j : ℕ} → (b ≡ j → ⊥) → b < j + 1 → b < j
    below ne lt = omega arith

pub since_all : {now : Relation} {n : ℕ} (O : ℕ → ℕ → Type 0) (events : List Event) (order : List ℕ)
    (from end : ℕ) → length order ≤ end
    → IsRelation now n (Union O (Below n (CoherenceBetween events order from end)))
    → IsRelation now n (Union O (Below n (CoherenceSince events order from)))
since_all {n = n} O events order from end whole before =
    same_added O (Below n (CoherenceSince events order from)) before (λ a b. (
      (λ h. (
        h.0,
        h.1,
        (h.2.0, h.2.1, omega (arith, whole, slice_get_within order h.2.0 a h.2.2.2), h.2.2),
      )),
      (λ r. (r.0, r.1, (r.2.0, r.2.1, r.2.3))),
    ))

-- ---- from one order to the next

pub dropped_among : {new spare : Relation} {n : ℕ} (old : Relation) (stores : Events)
    → stores.count ≡ n → IsRelation spare stores.count (Product (IsMember stores) (IsMember stores))
    → IsRelation new n (Minus (Has old) (Has spare))
    → IsRelation new n (Minus (Has old) (Product (IsMember stores) (IsMember stores)))
dropped_among old stores long made dropped = with_pairs dropped (λ a b. (
  (λ h. (h.0, (λ x. h.1 ((made.pairs a b).1 x)))),
  (λ h. (h.0, (λ x. h.1 ((made.pairs a b).0 x)))),
))

module _ {n : ℕ} (events : List Event) (previous order : List ℕ) (start : ℕ) (stores : Events)
    (tail : IsTail previous order n start stores) where
  -- where a store stands in the order that stands behind another in the previous one
  later_now : (i j b : ℕ) → b < n → i < start → i < j → slice_get previous j ≡ Some b
      → (k : ℕ) × (i < k) × (slice_get order k ≡ Some b)
  later_now i j b below inside lt at = elim (cases_lt j start) [
    | inl less ↦ (j, lt, sym (tail.alike j less) ∙ at)
    | inr more ↦
        let found = (tail.now.members b).0 ((tail.before.members b).1 (below, (j, more, at))) in
        (found.1.0, omega (arith, inside, found.1.1), found.1.2)
  ]

  later_before : (i j b : ℕ) → b < n → i < start → i < j → slice_get order j ≡ Some b
      → (k : ℕ) × (i < k) × (slice_get previous k ≡ Some b)
  later_before i j b below inside lt at = elim (cases_lt j start) [
    | inl less ↦ (j, lt, tail.alike j less ∙ at)
    | inr more ↦
        let found = (tail.before.members b).0 ((tail.now.members b).1 (below, (j, more, at))) in
        (found.1.0, omega (arith, inside, found.1.1), found.1.2)
  ]

  pub next_order : {old dropped new : Relation}
      → IsRelation old n (Below n (Coherence events previous))
      → IsRelation dropped n (Minus (Has old) (Product (IsMember stores) (IsMember stores)))
      → IsRelation new dropped.count (Union (Has dropped)
      (Below dropped.count (CoherenceSince events order start)))
      → IsRelation new n (Below n (Coherence events order))
  next_order {old} {dropped} {new} was less more =
      with_pairs (counted more) (λ a b. ((λ h. forth a b h), (λ h. back a b h)))
    where
      counted : IsRelation new dropped.count (Union (Has dropped)
          (Below dropped.count (CoherenceSince events order start)))
          → IsRelation new n (Union (Has dropped) (Below n (CoherenceSince events order start)))
      counted = rw less.count (λ r. r)

      kept : (a b : ℕ) → Has dropped a b → Below n (Coherence events order) a b
      kept a b h =
          let (had, apart) = (less.pairs a b).0 h in
          let (below_a, below_b, (i, (j, lt, at_i, at_j, same))) = (was.pairs a b).0 had in
          elim (cases_lt i start) [
            | inl inside ↦
                let (k, lt', at_k) = later_now i j b below_b inside lt at_j in
                (below_a, below_b, (i, (k, lt', sym (tail.alike i inside) ∙ at_i, at_k, same)))
            | inr behind ↦ absurd (apart (
              (tail.before.members a).1 (below_a, (i, behind, at_i)),
              (tail.before.members b).1 (below_b, (j, omega (arith, behind, lt), at_j)),
            ))
          ]

      forth : (a b : ℕ) → Union (Has dropped) (Below n (CoherenceSince events order start)) a b
          → Below n (Coherence events order) a b
      forth a b h = elim h [
        | inl x ↦ kept a b x
        | inr y ↦ (y.0, y.1, (y.2.0, y.2.2))
      ]

      back : (a b : ℕ) → Below n (Coherence events order) a b
          → Union (Has dropped) (Below n (CoherenceSince events order start)) a b
      back a b h =
          let (below_a, below_b, (i, (j, lt, at_i, at_j, same))) = h in
          elim (cases_lt i start) [
            | inl inside ↦
                let (k, lt', at_k) = later_before i j b below_b inside lt at_j in
                inl ((less.pairs a b).1 (
                  (was.pairs a b).1 (
                    below_a,
                    below_b,
                    (i, (k, lt', tail.alike i inside ∙ at_i, at_k, same)),
                  ),
                  (λ both. tail.apart i a inside at_i both.0),
                ))
            | inr behind ↦ inr (below_a, below_b, (i, behind, (j, lt, at_i, at_j, same)))
          ]
