-- The observables that states show are those of the test, one by one.
use Rattle.std.proofs.Common.{ℕ, zero, suc, ◌≡◌, ◌<◌, ◌⊎◌, inl, inr, Bool, true, false, ◌||◌, cond, IsTrue, List, [], ◌∷◌, ◌++◌, flat_map, map, length, get_or, Contains, AllPairs, Option, Some, None, option_map, refl, sym, ap, subst, ◌∙◌, arith, true≢false, Ordering, Less, Equal, Greater, nat_cmp, is_lt, nat_lt, nat_eq, ltb-true, eqb-true}
use Rattle.std.specs.List.{AllByRecursion, AllZip, list_any, filter_map, cons_option}
use Rattle.std.specs.List.Sorted.{IsStrictlySortedBy}
use Rattle.std.specs.Ordering.{ordering_then}
use Rattle.std.proofs.lemmas.List.Quantifiers.{position-Some}
use Rattle.std.proofs.lemmas.List.Elements.{Contains-append_left, Contains-append_right, Contains-append_cases}
use Rattle.std.proofs.lemmas.List.Concat.{flat_map-cons}
use Rattle.std.proofs.lemmas.Slice.Eq.{bytes_eq-Decides}
use Rattle.text_values.specs.declared.test.Place.{Place}
use Rattle.text_values.specs.declared.test.Place.TheVariants as places
use Rattle.text_values.specs.TestValue.{Content, Formula, Constant, Holds, Not, Join}
use Rattle.ppc_lowering.specs.Lowering.{IsNameBefore}
use Rattle.outcome_states.specs.declared.observable.Observable.{Observable}
use Rattle.outcome_states.specs.declared.observable.Observable.TheVariants as shown
use Rattle.outcome_states.specs.Meaning.{known_observable, location_of}
use Rattle.outcome_states.specs.Meaning as program
use Rattle.outcome_states.specs.Names.{is_name}
use Rattle.outcome_states.specs.Order.{observable_cmp, is_observable}
use Rattle.outcome_states.specs.Shown.{AreShown, is_among, known_observables}
use Rattle.outcome_states.specs.Text.{place_of, name_at}
use Rattle.outcome_states.proofs.Orders.{is_observable_same, is_observable_itself}
use Rattle.meaning.specs.Names.{Name, locations, locations_of_entry, locations_of_formula, locations_of_observable, locations_of_value}
use Rattle.meaning.specs.Outcome.{observables_of, observables}
use Rattle.meaning.proofs.Counting.{here, behind, head_or_tail, rising_are_one}
use Rattle.meaning.proofs.Entries.{in_order_too}
use Rattle.meaning_executions.proofs.Located.{rises}
use Rattle.meaning_executions.proofs.Observables.{place_known}
use Rattle.meaning_states.proofs.Picking.{with_first, no_pairs}
use Rattle.meaning_states.proofs.Placing.{RegisterBefore, register_to, IsObservableBefore, observables_asymmetric, observables_rise, observable_from, observable_there}

-- ---- lists of observables

none_in : {X : Type 0} (x : X) → Contains [] x → ⊥
none_in x (k, lt, eq) = omega (arith, lt)

among_there : (os : List Observable) (o : Observable) → Contains os o → is_among os o ≡ true
among_there [] o c = absurd (none_in o c)
among_there (q ∷ os) o c = by (head_or_tail q os o c) (λ d. among_there os o d)
  where
    second : (a b : Bool) → b ≡ true → (a || b) ≡ true
    second true b e = refl
    second false b e = e

    by : (q ≡ o) ⊎ Contains os o → (Contains os o → is_among os o ≡ true)
        → is_among (q ∷ os) o ≡ true
    by (inl same) rest =
        ap (λ (b : Bool). b || is_among os o)
        (ap (λ (p : Observable). is_observable o p) same ∙ is_observable_itself o)
    by (inr d) rest = second (is_observable o q) (is_among os o) (rest d)

there_among : (os : List Observable) (o : Observable) → is_among os o ≡ true → Contains os o
there_among [] o h = absurd (true≢false (sym h))
there_among (q ∷ os) o h = by (is_observable o q) refl h (λ g. there_among os o g)
  where
    by : (b : Bool) → is_observable o q ≡ b → (b || is_among os o) ≡ true
        → (is_among os o ≡ true → Contains os o) → Contains (q ∷ os) o
    by true is g rest = (0, omega arith, sym (is_observable_same o q is))
    by false is g rest = behind q os o (rest g)

module _ {X Y : Type 0} (f : X → Option Y) where
  mapped_there : (xs : List X) (x : X) (y : Y) → Contains xs x → f x ≡ Some y
      → Contains (filter_map f xs) y
  mapped_there [] x y c e = absurd (none_in x c)
  mapped_there (w ∷ xs) x y c e =
      by (head_or_tail w xs x c) (λ d. mapped_there xs x y d e)
    where
      later : (o : Option Y) → Contains (filter_map f xs) y
          → Contains (cons_option o (filter_map f xs)) y
      later None d = d
      later (Some z) d = behind z (filter_map f xs) y d

      by : (w ≡ x) ⊎ Contains xs x → (Contains xs x → Contains (filter_map f xs) y)
          → Contains (cons_option (f w) (filter_map f xs)) y
      by (inl same) rest =
          subst (λ (o : Option Y). Contains (cons_option o (filter_map f xs)) y)
          (sym (ap f same ∙ e)) (here y (filter_map f xs))
      by (inr d) rest = later (f w) (rest d)

  there_mapped : (xs : List X) (y : Y) → Contains (filter_map f xs) y
      → (x : X) × Contains xs x × (f x ≡ Some y)
  there_mapped [] y c = absurd (none_in y c)
  there_mapped (w ∷ xs) y c = by (f w) refl c (λ d. there_mapped xs y d)
    where
      with_w : (x : X) × Contains xs x × (f x ≡ Some y)
          → (x : X) × Contains (w ∷ xs) x × (f x ≡ Some y)
      with_w (x, d, e) = (x, behind w xs x d, e)

      by : (o : Option Y) → f w ≡ o → Contains (cons_option o (filter_map f xs)) y
          → (Contains (filter_map f xs) y → (x : X) × Contains xs x × (f x ≡ Some y))
          → (x : X) × Contains (w ∷ xs) x × (f x ≡ Some y)
      by None is d rest = with_w (rest d)
      by (Some z) is d rest = elim (head_or_tail z (filter_map f xs) y d) [
        | inl same ↦ (w, here w xs, is ∙ ap (λ (v : Y). Some v) same)
        | inr more ↦ with_w (rest more)
      ]

pub image_there : {X Y : Type 0} (f : X → Y) (xs : List X) (x : X) → Contains xs x
    → Contains (map f xs) (f x)
image_there f [] x c = absurd (none_in x c)
image_there {X} {Y} f (w ∷ xs) x c = by (head_or_tail w xs x c) (λ d. image_there f xs x d)
  where
    by : (w ≡ x) ⊎ Contains xs x → (Contains xs x → Contains (map f xs) (f x))
        → Contains (f w ∷ map f xs) (f x)
    by (inl same) rest =
        subst (λ (y : Y). Contains (f w ∷ map f xs) y) (ap f same) (here (f w) (map f xs))
    by (inr d) rest = behind (f w) (map f xs) (f x) (rest d)

pub from_image : {X Y : Type 0} (f : X → Y) (xs : List X) (y : Y) → Contains (map f xs) y
    → (x : X) × Contains xs x × (f x ≡ y)
from_image f [] y c = absurd (none_in y c)
from_image {X} f (w ∷ xs) y c = by (head_or_tail (f w) (map f xs) y c) (λ d. from_image f xs y d)
  where
    with_w : (x : X) × Contains xs x × (f x ≡ y) → (x : X) × Contains (w ∷ xs) x × (f x ≡ y)
    with_w (x, d, e) = (x, behind w xs x d, e)

    by : (f w ≡ y) ⊎ Contains (map f xs) y
        → (Contains (map f xs) y → (x : X) × Contains xs x × (f x ≡ y))
        → (x : X) × Contains (w ∷ xs) x × (f x ≡ y)
    by (inl same) rest = (w, here w xs, same)
    by (inr d) rest = with_w (rest d)

-- ---- observables by their text

module _ (names : List Name) where
  same_observable : {o q : Observable} → Some o ≡ Some q → o ≡ q
  same_observable e = cc

  -- the text of a known observable is what it was known from
  pub known_place : (p : Place) (o : Observable) → known_observable names p ≡ Some o
      → place_of names o ≡ p
  known_place (places.Register thread r) o known =
      ap (λ (q : Observable). place_of names q) (sym (same_observable known))
  known_place (places.Location l) o known = by (location_of names l) refl known
    where
      by : (i : Option ℕ) → location_of names l ≡ i → option_map shown.Location i ≡ Some o
          → place_of names o ≡ places.Location l
      by None found h = absurd (let f : None ≡ Some o = h in cc)
      by (Some i) found h =
          let there : _ = position-Some (is_name l) names i [] found in
          ap (λ (q : Observable). place_of names q) (sym (same_observable h))
          ∙ ap (λ (n : Name). places.Location n)
          (sym ((bytes_eq-Decides l (get_or names i [])).0 there.1))

  -- an observable that some text of these names
  abbrev pub IsNamed : Observable → Type 0
  IsNamed o = known_observable names (place_of names o) ≡ Some o

  named : (p : Place) (o : Observable) → known_observable names p ≡ Some o → IsNamed o
  named p o known =
      ap (λ (q : Place). known_observable names q) (known_place p o known) ∙ known

  index_below : (k : ℕ) → IsNamed (shown.Location k) → k < length names
  index_below k known = by (location_of names (name_at names k)) refl known
    where
      by : (i : Option ℕ) → location_of names (name_at names k) ≡ i
          → option_map shown.Location i ≡ Some (shown.Location k) → k < length names
      by None found h = absurd (let f : None ≡ Some (shown.Location k) = h in cc)
      by (Some i) found h =
          let same : i ≡ k = let f : Some (shown.Location i) ≡ Some (shown.Location k) = h in cc in
          subst (λ (n : ℕ). n < length names) same
          (position-Some (is_name (name_at names k)) names i [] found).0

  registers_before : (t r u q : ℕ) → ordering_then (nat_cmp t u) (nat_cmp r q) ≡ Less
      → RegisterBefore t r u q
  registers_before t r u q h = by (nat_lt t u) refl (nat_eq t u) refl h
    where
      lower : (a b : Bool) → cond a Less (cond b Equal Greater) ≡ Less → a ≡ true
      lower true b e = refl
      lower false true e = absurd (let f : Equal ≡ Less = e in cc)
      lower false false e = absurd (let f : Greater ≡ Less = e in cc)

      by : (a : Bool) → nat_lt t u ≡ a → (b : Bool) → nat_eq t u ≡ b
          → ordering_then (cond a Less (cond b Equal Greater)) (nat_cmp r q) ≡ Less
          → RegisterBefore t r u q
      by true is b are e = inl (ltb-true t u is)
      by false is true are e =
          inr (eqb-true t u are, ltb-true r q (lower (nat_lt r q) (nat_eq r q) e))
      by false is false are e = absurd (let f : Greater ≡ Less = e in cc)

  module _ (rising : AllPairs IsNameBefore names) where
    place_before : (o q : Observable) → IsNamed o → IsNamed q → observable_cmp o q ≡ Less
        → IsObservableBefore (place_of names o) (place_of names q)
    place_before (shown.Register t r) (shown.Register u q) h g before =
        register_to t r u q (registers_before t r u q before)
    place_before (shown.Register t r) (shown.Location l) h g before = refl
    place_before (shown.Location k) (shown.Register u q) h g before =
        absurd (let f : Greater ≡ Less = before in cc)
    place_before (shown.Location k) (shown.Location l) h g before =
        ap is_lt (rising k l [] (lower (nat_lt k l) refl (nat_eq k l) before) (index_below l g))
      where
        lower : (a : Bool) → nat_lt k l ≡ a → (b : Bool)
            → cond a Less (cond b Equal Greater) ≡ Less → k < l
        lower true is b e = ltb-true k l is
        lower false is true e = absurd (let f : Equal ≡ Less = e in cc)
        lower false is false e = absurd (let f : Greater ≡ Less = e in cc)

    first_before : (o : Observable) (os : List Observable) → IsNamed o
        → AllByRecursion IsNamed os → AllByRecursion (λ q. observable_cmp o q ≡ Less) os
        → (p : Place) → Contains (map (place_of names) os) p
        → IsObservableBefore (place_of names o) p
    first_before o [] is all before p c = absurd (none_in p c)
    first_before o (q ∷ os) is all before p c =
        by (head_or_tail (place_of names q) (map (place_of names) os) p c)
        (λ d. first_before o os is all.1 before.1 p d)
      where
        by : (place_of names q ≡ p) ⊎ Contains (map (place_of names) os) p
            → (Contains (map (place_of names) os) p → IsObservableBefore (place_of names o) p)
            → IsObservableBefore (place_of names o) p
        by (inl same) rest =
            subst (λ (s : Place). IsObservableBefore (place_of names o) s) same
            (place_before o q is all.0 before.0)
        by (inr d) rest = rest d

    places_rise : (os : List Observable) → AllByRecursion IsNamed os
        → IsStrictlySortedBy observable_cmp os
        → AllPairs IsObservableBefore (map (place_of names) os)
    unfolding IsStrictlySortedBy
    places_rise [] all sorted = no_pairs IsObservableBefore
    places_rise (o ∷ os) all sorted =
        with_first IsObservableBefore (place_of names o) (map (place_of names) os)
        (first_before o os all.0 all.1 sorted.0) (places_rise os all.1 sorted.1)

-- ---- those of a test

in_either : (xs ys zs : List Name) (n : Name) → (Contains xs n → Contains zs n)
    → (Contains ys n → Contains zs n) → Contains (xs ++ ys) n → Contains zs n
in_either xs ys zs n left right h = elim (Contains-append_cases xs ys n h) [
  | inl c ↦ left c
  | inr c ↦ right c
]

-- the location of an observable of a proposition is one of the proposition
in_formula : (f : Formula) (p : Place) → Contains (observables_of f) p → (l : Name)
    → Contains (locations_of_observable p) l → Contains (locations_of_formula f) l
in_formula (Constant b) p c l h = absurd (none_in p c)
in_formula (Holds q v) p (zero, lt, same) l h =
    Contains-append_left (locations_of_observable q) (locations_of_value v) l
    (subst (λ (s : Place). Contains (locations_of_observable s) l) (sym same) h)
in_formula (Holds q v) p (suc k, lt, same) l h = absurd (omega (arith, lt))
in_formula (Not a) p c l h = in_formula a p c l h
in_formula (Join op a b) p c l h =
    by (Contains-append_cases (observables_of a) (observables_of b) p c)
    (λ d. in_formula a p d l h) (λ d. in_formula b p d l h)
  where
    by : Contains (observables_of a) p ⊎ Contains (observables_of b) p
        → (Contains (observables_of a) p → Contains (locations_of_formula a) l)
        → (Contains (observables_of b) p → Contains (locations_of_formula b) l)
        → Contains (locations_of_formula a ++ locations_of_formula b) l
    by (inl d) left right =
        Contains-append_left (locations_of_formula a) (locations_of_formula b) l (left d)
    by (inr d) left right =
        Contains-append_right (locations_of_formula a) (locations_of_formula b) l (right d)

in_places : (ps : List Place) (p : Place) → Contains ps p → (l : Name)
    → Contains (locations_of_observable p) l → Contains (flat_map locations_of_observable ps) l
in_places [] p c l h = absurd (none_in p c)
in_places (q ∷ ps) p c l h = by (head_or_tail q ps p c) (λ d. in_places ps p d l h)
  where
    whole : List Name
    whole = locations_of_observable q ++ flat_map locations_of_observable ps

    split : Contains whole l → Contains (flat_map locations_of_observable (q ∷ ps)) l
    split d =
        subst (λ (ns : List Name). Contains ns l)
        (sym (flat_map-cons locations_of_observable q ps)) d

    by : (q ≡ p) ⊎ Contains ps p
        → (Contains ps p → Contains (flat_map locations_of_observable ps) l)
        → Contains (flat_map locations_of_observable (q ∷ ps)) l
    by (inl same) rest =
        split (Contains-append_left (locations_of_observable q)
        (flat_map locations_of_observable ps) l
        (subst (λ (s : Place). Contains (locations_of_observable s) l) (sym same) h))
    by (inr d) rest =
        split (Contains-append_right (locations_of_observable q)
        (flat_map locations_of_observable ps) l (rest d))

module _ (t : Content) where
  abbrev names_of : List Name
  names_of = locations t

  abbrev written : List Place
  written = observables_of t.condition ++ t.observed

  abbrev named_in : List Name
  named_in =
      flat_map locations_of_entry t.init ++ locations_of_formula t.condition
      ++ flat_map locations_of_observable t.observed

  location_there : (p : Place) → Contains written p → (l : Name)
      → Contains (locations_of_observable p) l → Contains names_of l
  location_there p c l h =
      in_order_too named_in l (by (Contains-append_cases (observables_of t.condition) t.observed p c))
    where
      by : Contains (observables_of t.condition) p ⊎ Contains t.observed p → Contains named_in l
      by (inl d) =
          Contains-append_left
          (flat_map locations_of_entry t.init ++ locations_of_formula t.condition)
          (flat_map locations_of_observable t.observed) l
          (Contains-append_right (flat_map locations_of_entry t.init)
          (locations_of_formula t.condition) l (in_formula t.condition p d l h))
      by (inr d) =
          Contains-append_right
          (flat_map locations_of_entry t.init ++ locations_of_formula t.condition)
          (flat_map locations_of_observable t.observed) l (in_places t.observed p d l h)

  all_known : (p : Place) → Contains written p
      → (o : Observable) × (known_observable names_of p ≡ Some o)
  all_known p c = place_known names_of p (location_there p c)

  module _ (os : List Observable) (are : AreShown names_of written os) where
    shown_from : (o : Observable) → Contains os o
        → (p : Place) × Contains written p × (known_observable names_of p ≡ Some o)
    shown_from o c =
        there_mapped (known_observable names_of) written o
        (there_among (known_observables names_of written) o
        (sym (are.exact o) ∙ among_there os o c))

    there_shown : (p : Place) (o : Observable) → Contains written p
        → known_observable names_of p ≡ Some o → Contains os o
    there_shown p o c known =
        there_among os o
        (are.exact o
        ∙ among_there (known_observables names_of written) o
        (mapped_there (known_observable names_of) written p o c known))

    is_named : (o : Observable) → Contains os o → IsNamed names_of o
    is_named o c =
        let from : _ = shown_from o c in named names_of from.0 o from.2

    all_named : (qs : List Observable) → ((o : Observable) → Contains qs o → Contains os o)
        → AllByRecursion (IsNamed names_of) qs
    all_named [] inside = tt
    all_named (q ∷ qs) inside = (
      is_named q (inside q (here q qs)),
      all_named qs (λ o c. inside o (behind q qs o c)),
    )

    pub are_named : AllByRecursion (IsNamed names_of) os
    are_named = all_named os (λ o c. c)

    same_places : observables t ≡ map (place_of names_of) os
    same_places =
        rising_are_one IsObservableBefore observables_asymmetric (observables t)
        (map (place_of names_of) os) (observables_rise written)
        (places_rise names_of (rises t) os are_named are.ordered)
        (λ p c. into p (observable_from written p c))
        (λ p c. observable_there written p (back p c))
      where
        into : (p : Place) → Contains written p → Contains (map (place_of names_of) os) p
        into p c =
            let known : _ = all_known p c in
            subst (λ (q : Place). Contains (map (place_of names_of) os) q)
            (known_place names_of p known.0 known.1)
            (image_there (place_of names_of) os known.0 (there_shown p known.0 c known.1))

        back : (p : Place) → Contains (map (place_of names_of) os) p → Contains written p
        back p c =
            let image : _ = from_image (place_of names_of) os p c in
            let from : _ = shown_from image.0 image.1 in
            subst (λ (q : Place). Contains written q)
            (sym (known_place names_of from.0 image.0 from.2) ∙ image.2) from.1

    beside : (qs : List Observable) → AllByRecursion (IsNamed names_of) qs
        → AllZip (λ p o. known_observable names_of p ≡ Some o) (map (place_of names_of) qs) qs
    beside [] all = tt
    beside (q ∷ qs) all = (all.0, beside qs all.1)

    -- each observable of the test is known, in the order of those that are shown
    pub are_beside : AllZip (λ p o. known_observable names_of p ≡ Some o) (observables t) os
    are_beside =
        subst
        (λ (ps : List Place). AllZip (λ p o. known_observable names_of p ≡ Some o) ps os)
        (sym same_places) (beside os are_named)
