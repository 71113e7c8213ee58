-- Numbers and events stand for one another in such a way that the events of a list have their
-- indexes.
use Rattle.std.proofs.Common.{ℕ, zero, suc, ◌≡◌, ◌<◌, ◌≤◌, ◌⊎◌, ◌↔◌, inl, inr, Bool, true, false, nat_eq, List, length, Option, Some, None, slice_get, refl, sym, ap, subst, ◌∙◌, arith, eqb-true, eq-eqb, true≢false, if◌then◌else◌}
use Rattle.std.proofs.lemmas.Bool.{cases_lt}
use Rattle.std.proofs.lemmas.Option.{same_Some, slice_get_within}
use Rattle.meaning.specs.Sets.{Set, Relation}
use Rattle.meaning.specs.Executions.{Event}
use Rattle.meaning_laws.proofs.Coding.{event_code, event_of, one_event}

-- ---- two numbers that change places

abbrev swapped : ℕ → ℕ → ℕ → ℕ
swapped a b n = if nat_eq n a then b else if nat_eq n b then a else n

differ : (a b : ℕ) → (a ≡ b → ⊥) → nat_eq a b ≡ false
differ a b other = at (nat_eq a b) refl
  where
    at : (t : Bool) → nat_eq a b ≡ t → t ≡ false
    at true e = absurd (other (eqb-true a b e))
    at false e = refl

swap_first : (a b : ℕ) → swapped a b a ≡ b
swap_first a b =
    ap (λ (t : Bool). if t then b else if nat_eq a b then a else a) (eq-eqb a a refl)

swap_second : (a b : ℕ) → swapped a b b ≡ a
swap_second a b = at (nat_eq b a) (eqb-true b a)
  where
    at : (t : Bool) → (t ≡ true → b ≡ a)
        → (if t then b else if nat_eq b b then a else b) ≡ a
    at true same = same refl
    at false same = ap (λ (t : Bool). if t then a else b) (eq-eqb b b refl)

swap_other : (a b n : ℕ) → (n ≡ a → ⊥) → (n ≡ b → ⊥) → swapped a b n ≡ n
swap_other a b n first second =
    ap (λ (t : Bool). if t then b else if nat_eq n b then a else n) (differ n a first)
    ∙ ap (λ (t : Bool). if t then a else n) (differ n b second)

swap_twice : (a b n : ℕ) → swapped a b (swapped a b n) ≡ n
swap_twice a b n = at (nat_eq n a) (eqb-true n a) refl
  where
    not_it : (m : ℕ) → nat_eq n m ≡ false → n ≡ m → ⊥
    not_it m e same = true≢false (sym (eq-eqb n m same) ∙ e)

    second : (t : Bool) → nat_eq n b ≡ t → nat_eq n a ≡ false → swapped a b (swapped a b n) ≡ n
    second true e other =
        let is : n ≡ b = eqb-true n b e in
        subst (λ (k : ℕ). swapped a b (swapped a b k) ≡ k) (sym is)
        (ap (λ (k : ℕ). swapped a b k) (swap_second a b) ∙ swap_first a b)
    second false e other =
        let stays : swapped a b n ≡ n = swap_other a b n (not_it a other) (not_it b e) in
        ap (λ (k : ℕ). swapped a b k) stays ∙ stays

    at : (t : Bool) → (t ≡ true → n ≡ a) → nat_eq n a ≡ t → swapped a b (swapped a b n) ≡ n
    at true same e =
        subst (λ (k : ℕ). swapped a b (swapped a b k) ≡ k) (sym (same refl))
        (ap (λ (k : ℕ). swapped a b k) (swap_first a b) ∙ swap_second a b)
    at false same e = second (nat_eq n b) refl e

-- ---- numberings

-- The first events of the list, so many of them, have their indexes.
pub record Numbering (es : List Event) (k : ℕ) : Type 0 where
  pub to : ℕ → Event
  pub from : Event → ℕ
  pub there : (n : ℕ) → from (to n) ≡ n
  pub back : (e : Event) → to (from e) ≡ e
  pub fits : (n : ℕ) (e : Event) → n < k → slice_get es n ≡ Some e → to n ≡ e

module _ (es : List Event)
    (once : (m n : ℕ) (e : Event) → slice_get es m ≡ Some e → slice_get es n ≡ Some e → m ≡ n) where
  by_codes : Numbering es 0
  by_codes = record {
    to = λ n. (event_of n).0;
    from = event_code;
    there = λ n. (event_of n).1;
    back = λ e. one_event (event_of (event_code e)).0 e (event_of (event_code e)).1;
    fits = λ n e lt at. absurd (omega (arith, lt));
  }

  one_more : (k : ℕ) (e : Event) → slice_get es k ≡ Some e → Numbering es k → Numbering es (suc k)
  one_more k e at before = record {
    to = λ n. before.to (swapped k (before.from e) n);
    from = λ g. swapped k (before.from e) (before.from g);
    there = λ n.
        ap (λ (m : ℕ). swapped k (before.from e) m) (before.there (swapped k (before.from e) n))
        ∙ swap_twice k (before.from e) n;
    back = λ g.
        ap (λ (m : ℕ). before.to m) (swap_twice k (before.from e) (before.from g))
        ∙ before.back g;
    fits = λ n g lt is. fit n g lt is (cases_lt n k);
  }
    where
      fit : (n : ℕ) (g : Event) → n < suc k → slice_get es n ≡ Some g → (n < k) ⊎ (k ≤ n)
          → before.to (swapped k (before.from e) n) ≡ g
      fit n g lt is (inl less) =
          let own : before.to n ≡ g = before.fits n g less is in
          let other : n ≡ before.from e → ⊥ = λ same.
          let same_event : e ≡ g =
          sym (before.back e) ∙ (ap (λ (m : ℕ). before.to m) (sym same) ∙ own) in
          let index : n ≡ k =
          once n k g is (at ∙ ap (λ (d : Event). Some d) same_event) in
          omega (arith, index, less) in
          let stays : swapped k (before.from e) n ≡ n =
          swap_other k (before.from e) n (λ same. omega (arith, same, less)) other in
          ap (λ (m : ℕ). before.to m) stays ∙ own
      fit n g lt is (inr le) =
          let same : k ≡ n = omega (arith, lt, le) in
          let one : e ≡ g =
          same_Some _ _ (sym at ∙ (ap (λ (m : ℕ). slice_get es m) same ∙ is)) in
          subst (λ (m : ℕ). before.to (swapped k (before.from e) m) ≡ g) same
          (ap (λ (m : ℕ). before.to m) (swap_first k (before.from e))
          ∙ (before.back e ∙ one))

  no_more : (k : ℕ) → slice_get es k ≡ None → Numbering es k → Numbering es (suc k)
  no_more k none before = record {
    to = before.to;
    from = before.from;
    there = before.there;
    back = before.back;
    fits = λ n e lt is. fit n e lt is (cases_lt n k);
  }
    where
      fit : (n : ℕ) (e : Event) → n < suc k → slice_get es n ≡ Some e → (n < k) ⊎ (k ≤ n)
          → before.to n ≡ e
      fit n e lt is (inl less) = before.fits n e less is
      fit n e lt is (inr le) =
          let same : k ≡ n = omega (arith, lt, le) in
          let never : None ≡ Some e =
          sym none ∙ (ap (λ (m : ℕ). slice_get es m) same ∙ is) in
          absurd cc

  pub numbering : (k : ℕ) → Numbering es k
  numbering zero = by_codes
  numbering (suc k) = next (slice_get es k) refl (numbering k)
    where
      next : (o : Option Event) → slice_get es k ≡ o → Numbering es k → Numbering es (suc k)
      next None e before = no_more k e before
      next (Some d) e before = one_more k d e before

-- ---- along a numbering of the events of a list

module _ (es : List Event) (N : Numbering es (length es)) where
  pub is_it : (n : ℕ) (e : Event) → slice_get es n ≡ Some e → N.to n ≡ e
  is_it n e at = N.fits n e (slice_get_within es n e at) at

  index_is : (n k : ℕ) → N.to n ≡ N.to k → n ≡ k
  index_is n k e = sym (N.there n) ∙ (ap (λ (d : Event). N.from d) e ∙ N.there k)

  -- a set of indexes, and that of the events there
  pub set_along : (S : Set ℕ) (T : Set Event)
      → ((n : ℕ) → S n → (e : Event) × (slice_get es n ≡ Some e) × T e)
      → ((e : Event) → T e → (n : ℕ) × (slice_get es n ≡ Some e) × S n)
      → (n : ℕ) → S n ↔ T (N.to n)
  set_along S T by_name by_number n = (
    λ s. let by : _ = by_name n s in
        subst (λ (e : Event). T e) (sym (is_it n by.0 by.1)) by.2,
    λ q. let by : _ = by_number (N.to n) q in
        subst (λ (k : ℕ). S k) (index_is by.0 n (is_it by.0 (N.to n) by.1)) by.2,
  )

  -- a relation on indexes, and that on the events there
  pub relation_along : (R : Relation ℕ) (Q : Relation Event)
      → ((m n : ℕ) → R m n → (a : Event) × (b : Event) × (slice_get es m ≡ Some a)
      × (slice_get es n ≡ Some b) × Q a b)
      → ((a b : Event) → Q a b → (m : ℕ) × (n : ℕ) × (slice_get es m ≡ Some a)
      × (slice_get es n ≡ Some b) × R m n)
      → (m n : ℕ) → R m n ↔ Q (N.to m) (N.to n)
  relation_along R Q by_name by_number m n = (
    λ r. let by : _ = by_name m n r in
        subst (λ (e : Event). Q e (N.to n)) (sym (is_it m by.0 by.2))
        (subst (λ (e : Event). Q by.0 e) (sym (is_it n by.1 by.3)) by.4),
    λ q. let by : _ = by_number (N.to m) (N.to n) q in
        subst (λ (k : ℕ). R k n) (index_is by.0 m (is_it by.0 (N.to m) by.2))
        (subst (λ (k : ℕ). R by.0 k) (index_is by.1 n (is_it by.1 (N.to n) by.3)) by.4),
  )
