-- Stores in an order, by the locations that they are of.
use Rattle.std.proofs.Common.{ℕ, ◌≡◌, ◌<◌, ◌≤◌, ◌+◌, Bool, true, false, List, Option, Some, None, length, get_or, inl, inr, arith, sym, ap, ◌∙◌}
use Rattle.std.specs.List.{slice_get}
use Rattle.std.proofs.lemmas.Bool.{cases_eq, cases_lt, false≢true}
use Rattle.std.proofs.lemmas.Option.{slice_get-get_or, get_or_from_slice_get, slice_get_within}
use Rattle.bit_rows.specs.Relation.{Relation, Has, IsRegular, IsRelation}
use Rattle.bit_rows.specs.Pairs.{Union}
use Rattle.store_orders.specs.declared.combination.Event.{Event}
use Rattle.base_names.specs.Events.{Below, SameLocation, IsAccessAt, AreLocationsRising, CoherenceFrom, CoherenceFromTo, location_of}
use Rattle.base_names.proofs.Linking.{none_added, more_added, same_added}

or_zero : Option ℕ → ℕ
or_zero None = 0
or_zero (Some n) = n

pub same_number : {m n : ℕ} → Some m ≡ Some n → m ≡ n
unfolding or_zero
same_number e = ap or_zero e

is_number : Option ℕ → Bool
is_number None = false
is_number (Some n) = true

pub none_stands : {n : ℕ} → None ≡ Some n → ⊥
unfolding is_number
none_stands e = false≢true (ap is_number e)

-- what stands at the index of a store is its event
of_store : (events : List Event) (order : List ℕ) (i l s : ℕ) → slice_get order i ≡ Some s
    → IsAccessAt events order i l
    → (e : Event) × (slice_get events s ≡ Some e) × (location_of e.action ≡ Some l)
of_store events order i l s at h = (
  h.2.0,
  rw (sym (get_or_from_slice_get order i s 0 at) ∙ get_or_from_slice_get order i h.0 0 h.1)
      h.2.1,
  h.2.2,
)

-- a store of one location with another stands where that does
pub carried : (events : List Event) (order : List ℕ) (i j l s t : ℕ) → slice_get order i ≡ Some s
    → slice_get order j ≡ Some t → IsAccessAt events order i l → SameLocation events s t
    → IsAccessAt events order j l
carried events order i j l s t at_i at_j h same =
    let own = of_store events order i l s at_i h in
    let one : same.0 ≡ own.0 = sym (get_or_from_slice_get events s same.0 own.0 same.2) ∙ get_or_from_slice_get events s own.0 own.0 own.1 in (
      t,
      at_j,
      (
        same.1,
        same.3,
        same.4.2 ∙ sym same.4.1 ∙ ap (λ (e : Event). location_of e.action) one ∙ own.2,
      ),
    )

pub alike : (events : List Event) (order : List ℕ) (i j l s t : ℕ) → slice_get order i ≡ Some s
    → slice_get order j ≡ Some t → IsAccessAt events order i l → IsAccessAt events order j l
    → SameLocation events s t
alike events order i j l s t at_i at_j h k =
    let own = of_store events order i l s at_i h in
    let other = of_store events order j l t at_j k in
    (own.0, other.0, own.1, other.1, (l, own.2, other.2))

-- what stands at one index is of one location
pub one_location : (events : List Event) (order : List ℕ) (i l m : ℕ) → IsAccessAt events order i l
    → IsAccessAt events order i m → l ≡ m
one_location events order i l m h k =
    let own = of_store events order i l k.0 k.1 h in
    let one : own.0 ≡ k.2.0 = sym (get_or_from_slice_get events k.0 own.0 own.0 own.1) ∙ get_or_from_slice_get events k.0 k.2.0 own.0 k.2.1 in
    same_number (sym own.2 ∙ ap (λ (e : Event). location_of e.action) one ∙ k.2.2)

-- one more index
pub rising_more : (events : List Event) (order : List ℕ) (i greatest l : ℕ)
    → IsAccessAt events order i l → greatest ≤ l
    → AreLocationsRising events order i × ((k m : ℕ) → k < i → IsAccessAt events order k m → m ≤ greatest)
    → AreLocationsRising events order (i + 1) × ((k m : ℕ) → k < i + 1 → IsAccessAt events order k m → m ≤ l)
rising_more events order i greatest l here most before = (
  (
    (λ k lt. elim (cases_eq k i) [ inl e ↦ (l, rw e here) | inr ne ↦ before.0.0 k (omega arith) ]),
    (λ j k a b lt lt' h h'. elim (cases_eq k i) [
      | inl e ↦
          let is : l ≡ b = one_location events order i l b here (rw e at h') in
          omega (arith, before.1 j a (omega arith) h)
      | inr ne ↦ before.0.1 j k a b lt (omega arith) h h'
    ]),
  ),
  (λ k m lt h. elim (cases_eq k i) [
    | inl e ↦
        let is : l ≡ m = one_location events order i l m here (rw e at h) in
        omega arith
    | inr ne ↦ omega (arith, before.1 k m (omega arith) h)
  ]),
)

-- an index that no access of a location stands at adds nothing
pub nothing_stands : (r : Relation) (events : List Event) (order : List ℕ) (i : ℕ) → IsRegular r
    → ((l : ℕ) → IsAccessAt events order i l → ⊥)
    → IsRelation r r.count (Union (Has r) (Below r.count (CoherenceFrom events order i)))
nothing_stands r events order i regular none =
    none_added r (Below r.count (CoherenceFrom events order i)) regular (λ a b h.
    let k = h.2 in
    none k.4.4.0 (a, k.2, (k.4.0, k.4.2, k.4.4.1)))

-- a store behind one that is of its location
pub later_more : {now new : Relation} {n : ℕ} (O : ℕ → ℕ → Type 0) (events : List Event)
    (order : List ℕ) (i j l s t : ℕ) → s ≡ get_or order i 0 → t ≡ get_or order j 0
    → i < length order → j < length order → i < j → IsAccessAt events order i l
    → IsAccessAt events order j l
    → IsRelation now n (Union O (Below n (CoherenceFromTo events order i j)))
    → IsRelation new now.count (Union (Has now) (Below now.count (λ a b. (a ≡ s) × (b ≡ t))))
    → IsRelation new n (Union O (Below n (CoherenceFromTo events order i (j + 1))))
later_more {now} {n = n} O events order i j l s t at_i at_j in_i in_j lt here there before step =
    more_added O (Below n (CoherenceFromTo events order i j))
    (Below n (CoherenceFromTo events order i (j + 1))) (Below now.count (λ a b. (a ≡ s) × (b ≡ t)))
    before step (λ a b. (
      (λ h.
          let k = h.2 in
          elim (cases_eq k.0 j) [
            | inl e ↦ inr (
              omega (arith, h.0, before.count),
              omega (arith, h.1, before.count),
              (
                sym (get_or_from_slice_get order i a 0 k.3) ∙ sym at_i,
                sym (get_or_from_slice_get order j b 0 (rw e at k.4)) ∙ sym at_j,
              ),
            )
            | inr ne ↦ inl (h.0, h.1, (k.0, omega (arith, k.1), k.2, k.3, k.4, k.5))
          ]),
      (λ h. elim h [
        | inl r ↦ let k = r.2 in (r.0, r.1, (k.0, omega (arith, k.1), k.2, k.3, k.4, k.5))
        | inr e ↦
            let first : slice_get order i ≡ Some s = rw at_i (slice_get-get_or order i 0 in_i) in
            let second : slice_get order j ≡ Some t = rw at_j (slice_get-get_or order j 0 in_j) in (
              omega (arith, e.0, before.count),
              omega (arith, e.1, before.count),
              rw (e.2.0, e.2.1) (
                j,
                omega arith,
                lt,
                first,
                second,
                alike events order i j l s t first second here there,
              ),
            )
      ]),
    ))

-- a store behind one that is not
pub later_other : {now : Relation} {n : ℕ} (O : ℕ → ℕ → Type 0) (events : List Event)
    (order : List ℕ) (i j l : ℕ) → IsAccessAt events order i l → (IsAccessAt events order j l → ⊥)
    → IsRelation now n (Union O (Below n (CoherenceFromTo events order i j)))
    → IsRelation now n (Union O (Below n (CoherenceFromTo events order i (j + 1))))
later_other {n = n} O events order i j l here none before =
    same_added O (Below n (CoherenceFromTo events order i (j + 1))) before (λ a b. (
      (λ h.
          let k = h.2 in
          elim (cases_eq k.0 j) [
            | inl e ↦ absurd (none (carried events order i j l a b k.3 (rw e at k.4) here k.5))
            | inr ne ↦ (h.0, h.1, (k.0, omega (arith, k.1), k.2, k.3, k.4, k.5))
          ]),
      (λ r. let k = r.2 in (r.0, r.1, (k.0, omega (arith, k.1), k.2, k.3, k.4, k.5))),
    ))

-- where locations rise, none of its location stands behind one that is not
pub no_more : {now : Relation} {n : ℕ} (O : ℕ → ℕ → Type 0) (events : List Event) (order : List ℕ)
    (i j l : ℕ) → i < j → j < length order → AreLocationsRising events order (length order)
    → IsAccessAt events order i l → (IsAccessAt events order j l → ⊥)
    → IsRelation now n (Union O (Below n (CoherenceFromTo events order i j)))
    → IsRelation now n (Union O (Below n (CoherenceFrom events order i)))
no_more {n = n} O events order i j l lt inside rising here none before =
    same_added O (Below n (CoherenceFrom events order i)) before (λ a b. (
      (λ h.
          let k = h.2 in (
            h.0,
            h.1,
            (
              k.0,
              nearer k.0 (slice_get_within order k.0 b k.3)
                  (carried events order i k.0 l a b k.2 k.3 here k.4),
              k.1,
              k.2,
              k.3,
              k.4,
            ),
          )),
      (λ r. let k = r.2 in (r.0, r.1, (k.0, k.2, k.3, k.4, k.5))),
    ))
  where
    nearer : (k : ℕ) → k < length order → IsAccessAt events order k l → k < j
    nearer k small there = elim (cases_lt k j) [
      | inl less ↦ less
      | inr more ↦
          let found = rising.0 j inside in
          let first : l ≤ found.0 = rising.1 i j l found.0 lt inside here found.1 in
          elim (cases_eq k j) [
            | inl e ↦ absurd (none (rw e at there))
            | inr ne ↦
                let last : found.0 ≤ l = rising.1 j k found.0 l (omega (arith, more, ne)) small found.1 there in
                let is : found.0 ≡ l = omega (arith, first, last) in
                absurd (none (rw is at found.1))
          ]
    ]
