-- The observables of a test: those that its condition names are among them, and those that are
-- locations are locations of the test.
use Rattle.std.proofs.Common.{◌≡◌, ◌⊎◌, inl, inr, ℕ, Bool, true, false, bytes_eq, nat_eq, List, [], ◌∷◌, ◌++◌, flat_map, Contains, if◌then◌else◌, refl, sym, ap, ap₂, subst, true≢false}
use Rattle.std.proofs.lemmas.Bool.{and_parts}
use Rattle.std.proofs.lemmas.Bool.Decides.{Decides-eqb}
use Rattle.std.proofs.lemmas.List.Elements.{Contains-append_left, Contains-append_right, Contains-append_cases}
use Rattle.std.proofs.lemmas.Slice.Eq.{bytes_eq-Decides}
use Rattle.text_values.specs.declared.test.Place.{Place}
use Rattle.text_values.specs.declared.test.Place.TheVariants.{Location, Register}
use Rattle.text_values.specs.TestValue.{Content, Formula, Constant, Holds, Not, Join}
use Rattle.meaning.specs.Names.{Name, is_name_before, is_same_observable, with_one, in_order, locations, locations_of_entry, locations_of_formula, locations_of_observable, locations_of_value}
use Rattle.meaning.specs.Outcome.{is_observable_before, observables_of, observables}
use Rattle.meaning.proofs.Counting.{here, behind, head_or_tail}
use Rattle.plain_runs.proofs.Listing.{none_there}

-- ---- lists in order

module _ {X : Type 0} (is_same is_before : X → X → Bool) where
  abbrev put : X → List X → List X
  put = with_one is_same is_before

  -- what stands in a list with one thing more
  put_from : (x : X) (ys : List X) (z : X) → Contains (put x ys) z → (x ≡ z) ⊎ Contains ys z
  put_from x [] z there = head_or_tail x [] z there
  put_from x (y ∷ ys) z there =
      by (is_same x y) (is_before x y) (put_from x ys z) there
    where
      placed : ((x ≡ z) ⊎ Contains ys z) → (x ≡ z) ⊎ Contains (y ∷ ys) z
      placed (inl at) = inl at
      placed (inr later) = inr (behind y ys z later)

      by : (same before : Bool) → (Contains (put x ys) z → (x ≡ z) ⊎ Contains ys z)
          → Contains (if same then y ∷ ys else if before then x ∷ y ∷ ys else y ∷ put x ys) z
          → (x ≡ z) ⊎ Contains (y ∷ ys) z
      by true before rest h = inr h
      by false true rest h = head_or_tail x (y ∷ ys) z h
      by false false rest h = elim (head_or_tail y (put x ys) z h) [
        | inl at ↦ inr (subst (λ (w : X). Contains (y ∷ ys) w) at (here y ys))
        | inr later ↦ placed (rest later)
      ]

  put_old : (x : X) (ys : List X) (z : X) → Contains ys z → Contains (put x ys) z
  put_old x [] z there = absurd (none_there z there)
  put_old x (y ∷ ys) z there = by (is_same x y) (is_before x y) (put_old x ys z)
    where
      by : (same before : Bool) → (Contains ys z → Contains (put x ys) z)
          → Contains (if same then y ∷ ys else if before then x ∷ y ∷ ys else y ∷ put x ys) z
      by true before rest = there
      by false true rest = behind x (y ∷ ys) z there
      by false false rest = elim (head_or_tail y ys z there) [
        | inl at ↦ subst (λ (w : X). Contains (y ∷ put x ys) w) at (here y (put x ys))
        | inr later ↦ behind y (put x ys) z (rest later)
      ]

  put_new : ((x y : X) → is_same x y ≡ true → x ≡ y) → (x : X) (ys : List X)
      → Contains (put x ys) x
  put_new exact x [] = here x []
  put_new exact x (y ∷ ys) =
      by (is_same x y) (is_before x y) (λ e. exact x y e) (put_new exact x ys)
    where
      by : (same before : Bool) → (same ≡ true → x ≡ y) → Contains (put x ys) x
          → Contains (if same then y ∷ ys else if before then x ∷ y ∷ ys else y ∷ put x ys) x
      by true before one rest =
          subst (λ (w : X). Contains (y ∷ ys) w) (sym (one refl)) (here y ys)
      by false true one rest = here x (y ∷ ys)
      by false false one rest = behind y (put x ys) x rest

  pub ordered_from : (xs : List X) (z : X) → Contains (in_order is_same is_before xs) z
      → Contains xs z
  ordered_from [] z there = absurd (none_there z there)
  ordered_from (x ∷ xs) z there =
      elim (put_from x (in_order is_same is_before xs) z there) [
        | inl at ↦ subst (λ (w : X). Contains (x ∷ xs) w) at (here x xs)
        | inr later ↦ behind x xs z (ordered_from xs z later)
      ]

  pub ordered_has : ((x y : X) → is_same x y ≡ true → x ≡ y) → (xs : List X) (z : X)
      → Contains xs z → Contains (in_order is_same is_before xs) z
  ordered_has exact [] z there = absurd (none_there z there)
  ordered_has exact (x ∷ xs) z there = elim (head_or_tail x xs z there) [
    | inl at ↦
        subst (λ (w : X). Contains (in_order is_same is_before (x ∷ xs)) w) at
        (put_new exact x (in_order is_same is_before xs))
    | inr later ↦
        put_old x (in_order is_same is_before xs) z (ordered_has exact xs z later)
  ]

-- ---- observables and locations

exact_observable : (p q : Place) → is_same_observable p q ≡ true → p ≡ q
exact_observable (Location k) (Location l) e =
    ap (λ (n : Name). Location n) ((bytes_eq-Decides k l).0 e)
exact_observable (Location k) (Register t r) e = absurd (true≢false (sym e))
exact_observable (Register t r) (Location l) e = absurd (true≢false (sym e))
exact_observable (Register t r) (Register u q) e =
    let parts : (nat_eq t u ≡ true) × (nat_eq r q ≡ true) =
    and_parts (nat_eq t u) (nat_eq r q) e in
    ap₂ (λ (thread number : ℕ). Register thread number) ((Decides-eqb t u).0 parts.0)
    ((Decides-eqb r q).0 parts.1)

-- an observable of the condition
pub named_is_observed : (t : Content) (p : Place) → Contains (observables_of t.condition) p
    → Contains (observables t) p
named_is_observed t p there =
    ordered_has is_same_observable is_observable_before exact_observable
    (observables_of t.condition ++ t.observed) p
    (Contains-append_left (observables_of t.condition) t.observed p there)

one_is : (p : Place) (l : Name) → p ≡ Location l → Contains (locations_of_observable p) l
one_is p l e =
    subst (λ (q : Place). Contains (locations_of_observable q) l) (sym e) (here l [])

in_formula : (f : Formula) (l : Name) → Contains (observables_of f) (Location l)
    → Contains (locations_of_formula f) l
in_formula (Constant b) l there = absurd (none_there (Location l) there)
in_formula (Holds p v) l there = elim (head_or_tail p [] (Location l) there) [
  | inl at ↦
      Contains-append_left (locations_of_observable p) (locations_of_value v) l (one_is p l at)
  | inr later ↦ absurd (none_there (Location l) later)
]
in_formula (Not a) l there = in_formula a l there
in_formula (Join op a b) l there =
    elim (Contains-append_cases (observables_of a) (observables_of b) (Location l) there) [
      | inl left ↦
          Contains-append_left (locations_of_formula a) (locations_of_formula b) l
          (in_formula a l left)
      | inr right ↦
          Contains-append_right (locations_of_formula a) (locations_of_formula b) l
          (in_formula b l right)
    ]

in_observed : (ps : List Place) (l : Name) → Contains ps (Location l)
    → Contains (flat_map locations_of_observable ps) l
in_observed [] l there = absurd (none_there (Location l) there)
in_observed (p ∷ ps) l there = elim (head_or_tail p ps (Location l) there) [
  | inl at ↦
      Contains-append_left (locations_of_observable p) (flat_map locations_of_observable ps) l
      (one_is p l at)
  | inr later ↦
      Contains-append_right (locations_of_observable p) (flat_map locations_of_observable ps) l
      (in_observed ps l later)
]

exact_name : (k l : Name) → bytes_eq k l ≡ true → k ≡ l
exact_name k l e = (bytes_eq-Decides k l).0 e

-- an observable that is a location
pub observed_is_location : (t : Content) (l : Name) → Contains (observables t) (Location l)
    → Contains (locations t) l
observed_is_location t l there =
    ordered_has bytes_eq is_name_before exact_name ((entries ++ named) ++ observed) l
    (either
    (Contains-append_cases (observables_of t.condition) t.observed (Location l)
    (ordered_from is_same_observable is_observable_before
    (observables_of t.condition ++ t.observed) (Location l) there)))
  where
    entries : List Name
    entries = flat_map locations_of_entry t.init

    named : List Name
    named = locations_of_formula t.condition

    observed : List Name
    observed = flat_map locations_of_observable t.observed

    either : Contains (observables_of t.condition) (Location l) ⊎ Contains t.observed (Location l)
        → Contains ((entries ++ named) ++ observed) l
    either (inl condition) =
        Contains-append_left (entries ++ named) observed l
        (Contains-append_right entries named l (in_formula t.condition l condition))
    either (inr listed) =
        Contains-append_right (entries ++ named) observed l (in_observed t.observed l listed)
