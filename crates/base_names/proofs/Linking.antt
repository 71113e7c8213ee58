-- Relations that grow row by row.
use Rattle.std.proofs.Common.{ℕ, ◌≡◌, ◌<◌, ◌+◌, ◌↔◌, ◌⊎◌, List, [], ◌∷◌, length, take, get_or, slice_index_or, Contains, inl, inr, arith, refl, sym, ap, subst}
use Rattle.std.proofs.lemmas.List.{take_more}
use Rattle.std.proofs.lemmas.List.Elements.{Contains-append_left, Contains-append_right, Contains-append_cases}
use Rattle.std.proofs.lemmas.Bool.{cases_eq}
use Rattle.bit_rows.specs.Relation.{Relation, Has, IsRegular, IsRelation}
use Rattle.bit_rows.specs.Pairs.{Union, WithPair}
use Rattle.base_names.specs.Events.{Below, Before, ListedPairs, RowTo, RowsTo}

pub with_pairs : {r : Relation} {n : ℕ} {P Q : ℕ → ℕ → Type 0} → IsRelation r n P
    → ((a b : ℕ) → P a b ↔ Q a b) → IsRelation r n Q
with_pairs r same = record {
  count = r.count;
  regular = r.regular;
  pairs = λ a b. ((λ h. (same a b).0 ((r.pairs a b).0 h)), (λ h. (r.pairs a b).1 ((same a b).1 h)));
}

pub itself : (r : Relation) → IsRegular r → IsRelation r r.count (Has r)
itself r regular = record { count = refl; regular = regular; pairs = λ a b. ((λ h. h), (λ h. h)) }

-- nothing was added yet
pub none_added : (r : Relation) (R : ℕ → ℕ → Type 0) → IsRegular r → ((a b : ℕ) → R a b → ⊥)
    → IsRelation r r.count (Union (Has r) R)
none_added r R regular none =
    with_pairs (itself r regular) (λ a b.
    ((λ h. inl h), (λ h. elim h [ inl x ↦ x | inr y ↦ absurd (none a b y) ])))

-- one step adds the pairs of T
pub more_added : {now new : Relation} {n : ℕ} (O R S T : ℕ → ℕ → Type 0)
    → IsRelation now n (Union O R) → IsRelation new now.count (Union (Has now) T)
    → ((a b : ℕ) → S a b ↔ Union R T a b) → IsRelation new n (Union O S)
more_added {now} {new} {n} O R S T before step same = with_pairs (counted step) (λ a b. (
  (λ h. elim h [
    | inl x ↦ elim ((before.pairs a b).0 x) [ inl o ↦ inl o | inr r ↦ inr ((same a b).1 (inl r)) ]
    | inr t ↦ inr ((same a b).1 (inr t))
  ]),
  (λ h. elim h [
    | inl o ↦ inl ((before.pairs a b).1 (inl o))
    | inr s ↦ elim ((same a b).0 s) [ inl r ↦ inl ((before.pairs a b).1 (inr r)) | inr t ↦ inr t ]
  ]),
))
  where
    counted : IsRelation new now.count (Union (Has now) T) → IsRelation new n (Union (Has now) T)
    counted = rw before.count (λ r. r)

-- one step adds nothing
pub same_added : {now : Relation} {n : ℕ} {R : ℕ → ℕ → Type 0} (O S : ℕ → ℕ → Type 0)
    → IsRelation now n (Union O R) → ((a b : ℕ) → S a b ↔ R a b) → IsRelation now n (Union O S)
same_added O S before same = with_pairs before (λ a b. (
  (λ h. elim h [ inl o ↦ inl o | inr r ↦ inr ((same a b).1 r) ]),
  (λ h. elim h [ inl o ↦ inl o | inr s ↦ inr ((same a b).0 s) ]),
))

-- ---- the pairs of a row below an end

pub row_nothing : (R : ℕ → ℕ → Type 0) (from a b : ℕ) → RowTo R from 0 a b → ⊥
row_nothing R from a b h = omega (arith, h.1)

-- the next column is in the row
pub row_more : {now new : Relation} {n : ℕ} (O R : ℕ → ℕ → Type 0) (from to : ℕ)
    → IsRelation now n (Union O (RowTo R from to)) → R from to
    → IsRelation new now.count (WithPair (Has now) from to)
    → IsRelation new n (Union O (RowTo R from (to + 1)))
row_more O R from to before here step =
    more_added O (RowTo R from to) (RowTo R from (to + 1)) (λ a b. (a ≡ from) × (b ≡ to)) before
    step (λ a b. (
      (λ h. elim (cases_eq b to) [
        | inl same ↦ inr (h.0, same)
        | inr other ↦ inl
            (h.0, below other h.1, h.2)
      ]),
      (λ h. elim h [
        | inl r ↦ (r.0, omega (arith, r.1), r.2)
        | inr t ↦ (t.0, omega (arith, t.1), rw (t.0, t.1) here)
      ]),
    ))
  where
    below : {a i : ℕ} → (a ≡ i → ⊥) → a < i + 1 → a < i
    below ne lt = omega arith

-- it is not
pub row_less : {now : Relation} {n : ℕ} (O R : ℕ → ℕ → Type 0) (from to : ℕ)
    → IsRelation now n (Union O (RowTo R from to)) → (R from to → ⊥)
    → IsRelation now n (Union O (RowTo R from (to + 1)))
row_less O R from to before none = same_added O (RowTo R from (to + 1)) before (λ a b. (
  (λ h. elim (cases_eq b to) [
    | inl same ↦ absurd (none (rw (← h.0, ← same) h.2))
    | inr other ↦ (
      h.0,
      below other h.1,
      h.2,
    )
  ]),
  (λ r. (r.0, omega (arith, r.1), r.2)),
))
  where
    below : {a i : ℕ} → (a ≡ i → ⊥) → a < i + 1 → a < i
    below ne lt = omega arith

-- ---- the rows below an end

pub rows_nothing : (R : ℕ → ℕ → Type 0) (a b : ℕ) → RowsTo R 0 a b → ⊥
rows_nothing R a b h = omega (arith, h.0)

pub rows_more : {now new : Relation} {n : ℕ} (O R : ℕ → ℕ → Type 0) (from : ℕ)
    → IsRelation now n (Union O (RowsTo (Before n R) from))
    → IsRelation new now.count (Union (Has now) (RowTo R from now.count))
    → IsRelation new n (Union O (RowsTo (Before n R) (from + 1)))
rows_more {now} {n = n} O R from before step =
    more_added O (RowsTo (Before n R) from) (RowsTo (Before n R) (from + 1))
    (RowTo R from now.count) before step (λ a b. (
      (λ h. elim (cases_eq a from) [
        | inl same ↦ inr (same, omega (arith, h.1.0, before.count), h.1.1)
        | inr other ↦ inl (below other h.0, h.1)
      ]),
      (λ h. elim h [
        | inl r ↦ (omega (arith, r.0), r.1)
        | inr t ↦ (omega (arith, t.0), (omega (arith, t.1, before.count), t.2))
      ]),
    ))
  where
    below : {a i : ℕ} → (a ≡ i → ⊥) → a < i + 1 → a < i
    below ne lt = omega arith

-- all rows are done
pub rows_done : {now : Relation} {n : ℕ} (O R : ℕ → ℕ → Type 0) (end : ℕ) → end ≡ n
    → IsRelation now n (Union O (RowsTo (Before n R) end)) → IsRelation now n (Union O (Below n R))
rows_done {n = n} O R end last before = same_added O (Below n R) before (λ a b. (
  (λ h. (omega (arith, last, h.0), (h.1, h.2))),
  (λ r. (omega (arith, last, r.0), r.1.0, r.1.1)),
))

-- ---- the pairs of a list

pub listed_more : (pairs : List (ℕ × ℕ)) (i : ℕ) (d : ℕ × ℕ) (a b : ℕ) → i < length pairs
    → ListedPairs (take (i + 1) pairs) a b ↔ (ListedPairs (take i pairs) a b ⊎ ((a, b) ≡ get_or pairs i d))
listed_more pairs i d a b inside = rw (take_more pairs i d inside) (
  (λ h. elim (Contains-append_cases (take i pairs) (get_or pairs i d ∷ []) (a, b) h)
      [ inl x ↦ inl x | inr y ↦ inr (only (a, b) (get_or pairs i d) y) ]),
  (λ h. elim h [
    | inl x ↦ Contains-append_left (take i pairs) (get_or pairs i d ∷ []) (a, b) x
    | inr e ↦ Contains-append_right (take i pairs) (get_or pairs i d ∷ []) (a, b)
        (0, omega arith, sym e)
  ]),
)
  where
    only : (x y : ℕ × ℕ) → Contains (y ∷ []) x → x ≡ y
    only x y h =
        let z : h.0 ≡ 0 = omega (arith, h.1) in
        sym (subst (λ k. slice_index_or (y ∷ []) k x ≡ x) z h.2)

-- one pair of the list is added
pub list_more : {now new : Relation} {n : ℕ} (O : ℕ → ℕ → Type 0) (pairs : List (ℕ × ℕ)) (i : ℕ)
    (d : ℕ × ℕ) → i < length pairs
    → IsRelation now n (Union O (Below n (ListedPairs (take i pairs)))) → (get_or pairs i d).0 < n
    → (get_or pairs i d).1 < n
    → IsRelation new now.count (WithPair (Has now) (get_or pairs i d).0 (get_or pairs i d).1)
    → IsRelation new n (Union O (Below n (ListedPairs (take (i + 1) pairs))))
list_more {n = n} O pairs i d inside before first second step =
    more_added O (Below n (ListedPairs (take i pairs))) (Below n (ListedPairs (take (i + 1) pairs)))
    (λ a b. (a ≡ (get_or pairs i d).0) × (b ≡ (get_or pairs i d).1)) before step (λ a b. (
      (λ h. elim ((listed_more pairs i d a b inside).0 h.2) [
        | inl x ↦ inl (h.0, h.1, x)
        | inr e ↦ inr
            (ap (λ p. p.0) e, ap (λ p. p.1) e)
      ]),
      (λ h. elim h [
        | inl x ↦ (x.0, x.1, (listed_more pairs i d a b inside).1 (inl x.2))
        | inr t ↦ (
          rw t.0 first,
          rw t.1 second,
          (listed_more pairs i d a b inside).1 (inr (rw (t.0, t.1) refl)),
        )
      ]),
    ))

-- the next pair of the list lies outside
pub list_less : {now : Relation} {n : ℕ} (O : ℕ → ℕ → Type 0) (pairs : List (ℕ × ℕ)) (i : ℕ)
    (d : ℕ × ℕ) → i < length pairs
    → IsRelation now n (Union O (Below n (ListedPairs (take i pairs))))
    → ((get_or pairs i d).0 < n → (get_or pairs i d).1 < n → ⊥)
    → IsRelation now n (Union O (Below n (ListedPairs (take (i + 1) pairs))))
list_less {n = n} O pairs i d inside before out =
    same_added O (Below n (ListedPairs (take (i + 1) pairs))) before (λ a b. (
      (λ h. elim ((listed_more pairs i d a b inside).0 h.2) [
        | inl x ↦ (h.0, h.1, x)
        | inr e ↦ absurd
            (out (rw (← e) h.0) (rw (← e) h.1))
      ]),
      (λ x. (x.0, x.1, (listed_more pairs i d a b inside).1 (inl x.2))),
    ))
