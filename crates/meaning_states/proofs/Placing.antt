-- The observables that a state shows stand in one order by number and by name.
use Rattle.std.proofs.Common.{ℕ, zero, suc, ◌≡◌, ◌<◌, ◌≤◌, ◌+◌, ◌⊎◌, inl, inr, Bool, true, false, ◌&&◌, ◌||◌, nat_eq, nat_lt, bytes_eq, IsTrue, List, [], ◌∷◌, get_or, length, Contains, AllPairs, if◌then◌else◌, refl, sym, ap, ap₂, subst, ◌∙◌, arith, true≢false, ltb-true, lt-ltb, eqb-true, eq-eqb, Ordering, Less, Equal, Greater, nat_cmp, is_lt}
use Rattle.std.specs.Ordering.{ordering_reverse}
use Rattle.std.specs.Cmp.Lexicographic.{slice_cmp}
use Rattle.std.proofs.lemmas.Cmp.{nat_list_cmp_total}
use Rattle.std.proofs.lemmas.Map.Lookups.{exact_bytes}
use Rattle.std.proofs.lemmas.Bool.{cases_lt}
use Rattle.std.proofs.lemmas.List.Elements.{Contains-get_or}
use Rattle.std.proofs.lemmas.Slice.Eq.{bytes_eq-Decides}
use Rattle.text_values.specs.declared.test.Place.{Place}
use Rattle.text_values.specs.declared.test.Place.TheVariants.{Location, Register}
use Rattle.meaning.specs.Names.{Name, is_name_before, is_same_observable, with_one, in_order}
use Rattle.meaning.specs.Outcome.{is_observable_before}
use Rattle.meaning.proofs.Counting.{here, behind, head_or_tail}
use Rattle.meaning.proofs.Entries.{same_is, itself}
use Rattle.meaning.proofs.Orders.{name_asymmetric}
use Rattle.meaning_states.proofs.Picking.{with_first, no_pairs}

-- ---- any list in order

module _ {X : Type 0} (is_same is_before : X → X → Bool)
    (same : (x y : X) → is_same x y ≡ true → x ≡ y)
    (transitive : (x y z : X) → IsTrue (is_before x y) → IsTrue (is_before y z)
    → IsTrue (is_before x z))
    (total : (x y : X) → is_same x y ≡ false → is_before x y ≡ false → IsTrue (is_before y x)) where
  abbrev IsBefore : X → X → Type 0
  IsBefore x y = IsTrue (is_before x y)

  abbrev put : X → List X → List X
  put = with_one is_same is_before

  abbrev ordered : List X → List X
  ordered = in_order is_same is_before

  -- what stands there
  member_if : (x y : X) (ys : List X) (a b : Bool) (z : X)
      → (Contains (put x ys) z → (x ≡ z) ⊎ Contains ys z)
      → Contains (if a then y ∷ ys else if b then x ∷ y ∷ ys else y ∷ put x ys) z
      → (x ≡ z) ⊎ Contains (y ∷ ys) z
  member_if x y ys true b z rest h = inr h
  member_if x y ys false true z rest h = head_or_tail x (y ∷ ys) z h
  member_if x y ys false false z rest h = elim (head_or_tail y (put x ys) z h) [
    | inl eq ↦ inr (subst (λ (w : X). Contains (y ∷ ys) w) eq (here y ys))
    | inr there ↦ elim (rest there) [
      | inl eq ↦ inl eq
      | inr c ↦ inr (behind y ys z c)
    ]
  ]

  put_from : (x : X) (ys : List X) (z : X) → Contains (put x ys) z → (x ≡ z) ⊎ Contains ys z
  put_from x [] z h = head_or_tail x [] z h
  put_from x (y ∷ ys) z h =
      member_if x y ys (is_same x y) (is_before x y) z (λ c. put_from x ys z c) h

  there_if : (x y : X) (ys : List X) (a b : Bool) → is_same x y ≡ a → (z : X)
      → ((x ≡ z) ⊎ Contains ys z → Contains (put x ys) z) → (x ≡ z) ⊎ Contains (y ∷ ys) z
      → Contains (if a then y ∷ ys else if b then x ∷ y ∷ ys else y ∷ put x ys) z
  there_if x y ys true b is z rest (inl eq) =
      subst (λ (w : X). Contains (y ∷ ys) w) (sym (same x y is) ∙ eq) (here y ys)
  there_if x y ys true b is z rest (inr c) = c
  there_if x y ys false true is z rest (inl eq) =
      subst (λ (w : X). Contains (x ∷ y ∷ ys) w) eq (here x (y ∷ ys))
  there_if x y ys false true is z rest (inr c) = behind x (y ∷ ys) z c
  there_if x y ys false false is z rest (inl eq) = behind y (put x ys) z (rest (inl eq))
  there_if x y ys false false is z rest (inr c) = elim (head_or_tail y ys z c) [
    | inl eq ↦ subst (λ (w : X). Contains (y ∷ put x ys) w) eq (here y (put x ys))
    | inr d ↦ behind y (put x ys) z (rest (inr d))
  ]

  put_there : (x : X) (ys : List X) (z : X) → (x ≡ z) ⊎ Contains ys z → Contains (put x ys) z
  put_there x [] z (inl eq) = (0, omega arith, eq)
  put_there x [] z (inr c) = absurd (let lt : _ = c.1 in omega (arith, lt))
  put_there x (y ∷ ys) z h =
      there_if x y ys (is_same x y) (is_before x y) refl z (λ g. put_there x ys z g) h

  pub ordered_from : (xs : List X) (z : X) → Contains (ordered xs) z → Contains xs z
  ordered_from [] z h = h
  ordered_from (x ∷ xs) z h = by (put_from x (ordered xs) z h) (λ c. ordered_from xs z c)
    where
      by : (x ≡ z) ⊎ Contains (ordered xs) z → (Contains (ordered xs) z → Contains xs z)
          → Contains (x ∷ xs) z
      by (inl eq) rest = (0, omega arith, eq)
      by (inr c) rest = behind x xs z (rest c)

  pub ordered_there : (xs : List X) (z : X) → Contains xs z → Contains (ordered xs) z
  ordered_there [] z h = h
  ordered_there (x ∷ xs) z h =
      put_there x (ordered xs) z (by (head_or_tail x xs z h) (λ c. ordered_there xs z c))
    where
      by : (x ≡ z) ⊎ Contains xs z → (Contains xs z → Contains (ordered xs) z)
          → (x ≡ z) ⊎ Contains (ordered xs) z
      by (inl eq) rest = inl eq
      by (inr c) rest = inr (rest c)

  -- that it rises
  abbrev IsAbove : X → List X → Type 0
  IsAbove x ys = (z : X) → Contains ys z → IsTrue (is_before x z)

  abbrev Rises : List X → Type 0
  Rises [] = Unit {0}
  Rises (x ∷ xs) = IsAbove x xs × Rises xs

  above_all : (x y : X) (ys : List X) → IsTrue (is_before x y) → IsAbove y ys → IsAbove x (y ∷ ys)
  above_all x y ys first rest z c = elim (head_or_tail y ys z c) [
    | inl eq ↦ subst (λ (w : X). IsTrue (is_before x w)) eq first
    | inr d ↦ transitive x y z first (rest z d)
  ]

  above_put : (x y : X) (ys : List X) → IsTrue (is_before y x) → IsAbove y ys → IsAbove y (put x ys)
  above_put x y ys first rest z c = elim (put_from x ys z c) [
    | inl eq ↦ subst (λ (w : X). IsTrue (is_before y w)) eq first
    | inr d ↦ rest z d
  ]

  rises_if : (x y : X) (ys : List X) (a b : Bool) → is_same x y ≡ a → is_before x y ≡ b
      → Rises (y ∷ ys) → Rises (put x ys)
      → Rises (if a then y ∷ ys else if b then x ∷ y ∷ ys else y ∷ put x ys)
  rises_if x y ys true b is first rise rest = rise
  rises_if x y ys false true is first rise rest = (above_all x y ys first rise.0, rise)
  rises_if x y ys false false is first rise rest =
      (above_put x y ys (total x y is first) rise.0, rest)

  put_rises : (x : X) (ys : List X) → Rises ys → Rises (put x ys)
  put_rises x [] rise = (λ z c. absurd (let lt : _ = c.1 in omega (arith, lt)), tt)
  put_rises x (y ∷ ys) rise =
      rises_if x y ys (is_same x y) (is_before x y) refl refl rise (put_rises x ys rise.1)

  all_rise : (xs : List X) → Rises (ordered xs)
  all_rise [] = tt
  all_rise (x ∷ xs) = put_rises x (ordered xs) (all_rise xs)

  in_pairs : (xs : List X) → Rises xs → AllPairs IsBefore xs
  in_pairs [] rise = no_pairs IsBefore
  in_pairs (x ∷ xs) rise = with_first IsBefore x xs rise.0 (in_pairs xs rise.1)

  pub ordered_rises : (xs : List X) → AllPairs IsBefore (ordered xs)
  ordered_rises xs = in_pairs (ordered xs) (all_rise xs)

-- ---- observables

-- a register comes before another by its thread, and then by its number
abbrev pub RegisterBefore : ℕ → ℕ → ℕ → ℕ → Type 0
RegisterBefore t r u q = (t < u) ⊎ ((t ≡ u) × (r < q))

register_tests : (a b c : Bool) → (a || (b && c)) ≡ true → (a ≡ true) ⊎ ((b ≡ true) × (c ≡ true))
register_tests true b c h = inl refl
register_tests false true c h = inr (refl, h)
register_tests false false c h = absurd (true≢false (sym h))

register_from : (t r u q : ℕ) → IsTrue (nat_lt t u || (nat_eq t u && nat_lt r q))
    → RegisterBefore t r u q
register_from t r u q h = elim (register_tests (nat_lt t u) (nat_eq t u) (nat_lt r q) h) [
  | inl less ↦ inl (ltb-true t u less)
  | inr both ↦ inr (eqb-true t u both.0, ltb-true r q both.1)
]

pub register_to : (t r u q : ℕ) → RegisterBefore t r u q
    → IsTrue (nat_lt t u || (nat_eq t u && nat_lt r q))
register_to t r u q (inl less) =
    ap (λ (b : Bool). b || (nat_eq t u && nat_lt r q)) (lt-ltb t u less)
register_to t r u q (inr (same, less)) =
    or_true (nat_lt t u) (nat_eq t u && nat_lt r q)
    (ap₂ (λ (a b : Bool). a && b) (eq-eqb t u same) (lt-ltb r q less))
  where
    or_true : (a b : Bool) → b ≡ true → (a || b) ≡ true
    or_true true b e = refl
    or_true false b e = e

registers_transitive : (t r u q v p : ℕ) → RegisterBefore t r u q → RegisterBefore u q v p
    → RegisterBefore t r v p
registers_transitive t r u q v p (inl a) (inl b) = inl (omega (arith, a, b))
registers_transitive t r u q v p (inl a) (inr b) =
    let e : u ≡ v = b.0 in inl (omega (arith, a, e))
registers_transitive t r u q v p (inr a) (inl b) =
    let e : t ≡ u = a.0 in inl (omega (arith, b, e))
registers_transitive t r u q v p (inr a) (inr b) =
    let lt : r < q = a.1 in let more : q < p = b.1 in inr (a.0 ∙ b.0, omega (arith, lt, more))

registers_asymmetric : (t r u q : ℕ) → RegisterBefore t r u q → RegisterBefore u q t r → ⊥
registers_asymmetric t r u q (inl a) (inl b) = omega (arith, a, b)
registers_asymmetric t r u q (inl a) (inr b) = let e : u ≡ t = b.0 in omega (arith, a, e)
registers_asymmetric t r u q (inr a) (inl b) = let e : t ≡ u = a.0 in omega (arith, b, e)
registers_asymmetric t r u q (inr a) (inr b) =
    let lt : r < q = a.1 in let more : q < r = b.1 in omega (arith, lt, more)

registers_total : (t r u q : ℕ) → (t ≡ u → r ≡ q → ⊥) → (RegisterBefore t r u q → ⊥)
    → RegisterBefore u q t r
registers_total t r u q other not_before = elim (cases_lt t u) [
  | inl less ↦ absurd (not_before (inl less))
  | inr ge ↦ elim (cases_lt u t) [
    | inl more ↦ inl more
    | inr le ↦
        let same : t ≡ u = omega (arith, ge, le) in
        elim (cases_lt r q) [
          | inl less ↦ absurd (not_before (inr (same, less)))
          | inr above ↦ elim (cases_lt q r) [
            | inl more ↦ inr (sym same, more)
            | inr under ↦ absurd (other same (omega (arith, above, under)))
          ]
        ]
  ]
]

-- ---- names

less_is : (o : Ordering) → is_lt o ≡ true → o ≡ Less
less_is Less h = refl
less_is Equal h = absurd (true≢false (sym h))
less_is Greater h = absurd (true≢false (sym h))

name_transitive : (a b c : Name) → IsTrue (is_name_before a b) → IsTrue (is_name_before b c)
    → IsTrue (is_name_before a c)
name_transitive a b c first second =
    ap is_lt
    (nat_list_cmp_total.trans a b c (less_is (slice_cmp nat_cmp a b) first)
    (less_is (slice_cmp nat_cmp b c) second))

greater_is : (o : Ordering) → (o ≡ Equal → ⊥) → is_lt o ≡ false → o ≡ Greater
greater_is Less unequal h = absurd (true≢false h)
greater_is Equal unequal h = absurd (unequal refl)
greater_is Greater unequal h = refl

name_total : (a b : Name) → bytes_eq a b ≡ false → is_name_before a b ≡ false
    → IsTrue (is_name_before b a)
name_total a b unequal not_before =
    ap is_lt
    (nat_list_cmp_total.antisymm b a
    ∙ ap ordering_reverse
    (greater_is (slice_cmp nat_cmp a b)
    (λ eq. true≢false (sym ((bytes_eq-Decides a b).1 (exact_bytes a b eq)) ∙ unequal))
    not_before))

-- ---- in order

abbrev pub IsObservableBefore : Place → Place → Type 0
IsObservableBefore p q = IsTrue (is_observable_before p q)

pub observables_asymmetric : (p q : Place) → IsObservableBefore p q → IsObservableBefore q p → ⊥
observables_asymmetric (Register t r) (Register u q) h g =
    registers_asymmetric t r u q (register_from t r u q h) (register_from u q t r g)
observables_asymmetric (Register t r) (Location l) h g = true≢false (sym g)
observables_asymmetric (Location l) (Register t r) h g = true≢false (sym h)
observables_asymmetric (Location l) (Location m) h g = name_asymmetric l m h g

observables_transitive : (p q s : Place) → IsObservableBefore p q → IsObservableBefore q s → IsObservableBefore p s
observables_transitive (Register t r) (Register u q) (Register v p) h g =
    register_to t r v p
    (registers_transitive t r u q v p (register_from t r u q h) (register_from u q v p g))
observables_transitive (Register t r) (Register u q) (Location l) h g = refl
observables_transitive (Register t r) (Location l) (Register v p) h g =
    absurd (true≢false (sym g))
observables_transitive (Register t r) (Location l) (Location m) h g = refl
observables_transitive (Location l) (Register t r) s h g = absurd (true≢false (sym h))
observables_transitive (Location l) (Location m) (Register t r) h g =
    absurd (true≢false (sym g))
observables_transitive (Location l) (Location m) (Location n) h g = name_transitive l m n h g

observables_total : (p q : Place) → is_same_observable p q ≡ false → is_observable_before p q ≡ false
    → IsObservableBefore q p
observables_total (Register t r) (Register u q) other not_before =
    register_to u q t r
    (registers_total t r u q
    (λ same also. true≢false
    (sym (ap₂ (λ (a b : Bool). a && b) (eq-eqb t u same) (eq-eqb r q also)) ∙ other))
    (λ before. true≢false (sym (register_to t r u q before) ∙ not_before)))
observables_total (Register t r) (Location l) other not_before =
    absurd (true≢false not_before)
observables_total (Location l) (Register t r) other not_before = refl
observables_total (Location l) (Location m) other not_before = name_total l m other not_before

abbrev pub observables_in_order : List Place → List Place
observables_in_order = in_order is_same_observable is_observable_before

pub observables_rise : (ps : List Place) → AllPairs IsObservableBefore (observables_in_order ps)
observables_rise ps =
    ordered_rises is_same_observable is_observable_before same_is observables_transitive
    observables_total ps

pub observable_from : (ps : List Place) (p : Place) → Contains (observables_in_order ps) p
    → Contains ps p
observable_from ps p c =
    ordered_from is_same_observable is_observable_before same_is observables_transitive
    observables_total ps p c

pub observable_there : (ps : List Place) (p : Place) → Contains ps p
    → Contains (observables_in_order ps) p
observable_there ps p c =
    ordered_there is_same_observable is_observable_before same_is observables_transitive
    observables_total ps p c
