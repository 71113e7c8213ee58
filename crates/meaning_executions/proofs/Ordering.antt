-- The orders of the stores of a location are the same by number and by name.
use Rattle.std.proofs.Common.{ℕ, suc, ◌≡◌, ◌<◌, ◌≤◌, ◌+◌, inl, inr, Bool, true, false, ◌||◌, cond, nat_eq, List, [], ◌∷◌, length, get_or, All, Contains, Some, slice_get, refl, sym, ap, subst, ◌∙◌, arith, true≢false, eqb-true, eq-eqb}
use Rattle.std.specs.List.{AllZip}
use Rattle.std.proofs.lemmas.Bool.{cases_lt, or_parts}
use Rattle.std.proofs.lemmas.Option.{same_Some, slice_get_within, slice_get-get_or, get_or_from_slice_get}
use Rattle.std.proofs.lemmas.List.Elements.{All-nil, All-cons, All-contains}
use Rattle.text_values.specs.TestValue.{Content}
use Rattle.thread_runs.specs.declared.value.Value as numbered_value
use Rattle.store_orders.specs.declared.combination.Action as numbered_action
use Rattle.store_orders.specs.declared.combination.Action.TheVariants as actions
use Rattle.store_orders.specs.declared.combination.Event as numbered_event
use Rattle.store_orders.specs.Events.{numbers, is_store_to, has_store, AreDistinct}
use Rattle.run_combinations.proofs.Numbers.{Numbered, numbered, contained, number_there}
use Rattle.candidates.specs.Executions.{IsStoreOrder, locations_from, stores_at}
use Rattle.candidates.proofs.OneOutcome.{without, one_fewer, still_there, no_more_of}
use Rattle.meaning.specs.Sets.{IsOnce}
use Rattle.meaning.specs.Names.{Name, locations}
use Rattle.meaning.specs.Executions.{Event, Initial, Execution, Stores, HasAction, IsStoreOf, IsOrder}
use Rattle.meaning.proofs.Counting.{here, behind, head_or_tail}
use Rattle.meaning_executions.specs.Events.{AreSameEvents, IsNumbered, IsSameEvent}
use Rattle.meaning_executions.proofs.Lists.{carried, turned, at_left, at_right, left_there, right_there, index_of, member, StandsOnce, none_twice, one_more_once}
use Rattle.meaning_executions.proofs.Numbering.{names_once}
use Rattle.meaning_executions.proofs.Reading.{stores_by_name, stores_by_number}

-- ---- Lists in which nothing stands twice

apart_once : {X : Type 0} (xs : List X) → IsOnce xs → StandsOnce xs
apart_once xs once m n x at there = elim (cases_lt m n) [
  | inl less ↦
      let lt : n < length xs = slice_get_within xs n x there in
      absurd (once m n x less lt
      (get_or_from_slice_get xs m x x at ∙ sym (get_or_from_slice_get xs n x x there)))
  | inr le ↦ elim (cases_lt n m) [
    | inl less ↦
        let lt : m < length xs = slice_get_within xs m x at in
        absurd (once n m x less lt
        (get_or_from_slice_get xs n x x there ∙ sym (get_or_from_slice_get xs m x x at)))
    | inr ge ↦ omega (arith, le, ge)
  ]
]

pub once_apart : {X : Type 0} (xs : List X) → StandsOnce xs → IsOnce xs
once_apart {X} xs once i j d less lt same =
    let is : i ≡ j = once i j (get_or xs j d)
    (slice_get-get_or xs i d (omega (arith, less, lt)) ∙ ap (λ (x : X). Some x) same)
    (slice_get-get_or xs j d lt) in
    omega (arith, is, less)

has_one : (y x : ℕ) (ys : List ℕ) (b : Bool) → nat_eq y x ≡ b
    → (has_store ys x ≡ true → Contains ys x) → (b || has_store ys x) ≡ true → Contains (y ∷ ys) x
has_one y x ys true at later h =
    subst (λ (z : ℕ). Contains (y ∷ ys) z) (eqb-true y x at) (here y ys)
has_one y x ys false at later h = behind y ys x (later h)

has_it : (xs : List ℕ) (x : ℕ) → has_store xs x ≡ true → Contains xs x
has_it [] x h = absurd (true≢false (sym h))
has_it (y ∷ ys) x h = has_one y x ys (nat_eq y x) refl (has_it ys x) h

has_not : (xs : List ℕ) (x : ℕ) → has_store xs x ≡ false → Contains xs x → ⊥
has_not [] x h (k, lt, eq) = omega arith
has_not (y ∷ ys) x h there =
    let parts : (nat_eq y x ≡ false) × (has_store ys x ≡ false) =
    or_parts (nat_eq y x) (has_store ys x) h in
    elim (head_or_tail y ys x there) [
      | inl at ↦ true≢false (sym (eq-eqb y x at) ∙ parts.0)
      | inr later ↦ has_not ys x parts.1 later
    ]

distinct_once : (xs : List ℕ) → AreDistinct xs → StandsOnce xs
distinct_once [] h = none_twice
distinct_once (x ∷ xs) h =
    one_more_once x xs (λ k at. has_not xs x h.0 (member xs k x at)) (distinct_once xs h.1)

pub tail_once : {X : Type 0} (x : X) (xs : List X) → StandsOnce (x ∷ xs) → StandsOnce xs
tail_once x xs once m n y at there =
    let same : suc m ≡ suc n = once (suc m) (suc n) y at there in omega (arith, same)

once_distinct : (xs : List ℕ) → StandsOnce xs → AreDistinct xs
once_distinct [] once = tt
once_distinct (x ∷ xs) once = (go (has_store xs x) refl, once_distinct xs (tail_once x xs once))
  where
    go : (b : Bool) → has_store xs x ≡ b → has_store xs x ≡ false
    go false h = h
    go true h =
        let at : _ = index_of xs x (has_it xs x h) in
        let never : 0 ≡ suc at.0 = once 0 (suc at.0) x refl at.1 in
        absurd (omega (arith, never))

pub numbers_once : (test : numbered_event.Event → Bool) (at : ℕ) (ns : List numbered_event.Event)
    → StandsOnce (numbers test at ns)
numbers_once test at [] = none_twice
numbers_once test at (n ∷ ns) = go (test n) (numbers_once test (at + 1) ns)
  where
    go : (b : Bool) → StandsOnce (numbers test (at + 1) ns)
        → StandsOnce (cond b (at ∷ numbers test (at + 1) ns) (numbers test (at + 1) ns))
    go true rest =
        one_more_once at (numbers test (at + 1) ns)
        (λ k there.
        let found : Numbered test (at + 1) ns at = numbered test (at + 1) ns k at there in
        let is : at ≡ (at + 1) + found.index = found.is in omega (arith, is))
        rest
    go false rest = rest

pub all_of : {X : Type 0} (P : X → Type 0) (xs : List X) → ((x : X) → Contains xs x → P x) → All P xs
all_of P [] h = All-nil P
all_of P (x ∷ xs) h =
    All-cons P x xs (h x (here x xs)) (all_of P xs (λ y there. h y (behind x xs y there)))

as_many : {X : Type 0} (xs ys : List X) → StandsOnce xs → StandsOnce ys
    → ((x : X) → Contains xs x → Contains ys x) → ((x : X) → Contains ys x → Contains xs x)
    → length xs ≡ length ys
as_many xs ys first second to from =
    let few : length xs ≤ length ys =
    no_more_of (λ x y. x ≡ y → ⊥) (λ x other. other refl) xs ys (once_apart xs first) to in
    let many : length ys ≤ length xs =
    no_more_of (λ x y. x ≡ y → ⊥) (λ x other. other refl) ys xs (once_apart ys second) from in
    omega (arith, few, many)

-- a list of all of as many has each
has_each : (xs ys : List ℕ) → StandsOnce xs → ((x : ℕ) → Contains xs x → Contains ys x)
    → length xs ≡ length ys → (y : ℕ) → Contains ys y → Contains xs y
has_each xs ys once to long y there = go (has_store xs y) refl
  where
    go : (b : Bool) → has_store xs y ≡ b → Contains xs y
    go true h = has_it xs y h
    go false h =
        let few : length xs ≤ length (without ys there.0) =
        no_more_of (λ x z. x ≡ z → ⊥) (λ x other. other refl) xs (without ys there.0)
        (once_apart xs once)
        (λ z at. still_there ys there.0 y z there.1 there.2
        (λ same. has_not xs y h (subst (λ (w : ℕ). Contains xs w) (sym same) at)) (to z at)) in
        let fewer : length ys ≡ suc (length (without ys there.0)) =
        one_fewer ys there.0 there.1 in
        absurd (omega (arith, few, fewer, long))

-- ---- Stores of a location

pub store_action : (k : ℕ) (a : numbered_action.Action) → is_store_to k a ≡ true
    → (v : _) × (a ≡ actions.Store k v)
store_action k (actions.Load l v) h = absurd (true≢false (sym h))
store_action k (actions.Store l v) h =
    (v, ap (λ (i : ℕ). actions.Store i v) (eqb-true l k h))
store_action k (actions.Fence f) h = absurd (true≢false (sym h))

module _ (t : Content) (x : Execution) (ns : List numbered_event.Event) (es : List Event)
    (are : AreSameEvents t x ns es) (k : ℕ) (l : Name) (at : slice_get (locations t) k ≡ Some l) where
  abbrev stores_to : numbered_event.Event → Bool
  stores_to e = is_store_to k e.action

  store_there : (n : ℕ) → Contains (stores_at ns k) n
      → (d : numbered_event.Event) × (slice_get ns n ≡ Some d) × (stores_to d ≡ true)
  store_there n there =
      let found : Numbered stores_to 0 ns n = contained stores_to ns n there in
      let is : found.index ≡ n = let i : n ≡ 0 + found.index = found.is in omega (arith, i) in (
        found.item,
        ap (λ (j : ℕ). slice_get ns j) (sym is) ∙ found.there,
        found.passes,
      )

  is_store_of : (n : ℕ) (e : Event) → IsNumbered es n e → Contains (stores_at ns k) n
      → IsStoreOf t x l e
  is_store_of n e there h =
      let found : _ = store_there n h in
      let is : _ = store_action k found.0.action found.2 in
      let by : _ = stores_by_name t x ns es are n e there k is.0 (found.0, found.1, is.1) in
      let same : by.0 ≡ l = same_Some _ _ (sym by.3.location ∙ at) in
      (by.1, subst (λ (m : Name). HasAction t x e (Stores m by.1)) same by.2)

  is_store_at : (n : ℕ) (e : Event) → IsNumbered es n e → IsStoreOf t x l e
      → Contains (stores_at ns k) n
  is_store_at n e there (w, has) =
      let by : _ = stores_by_number t x ns es are n e there l w has in
      let same : by.0 ≡ k = names_once t by.0 k l by.3.location at in
      let passes : stores_to by.2.0 ≡ true =
      ap (λ (a : numbered_action.Action). is_store_to k a) by.2.2 ∙ eq-eqb by.0 k same in
      let zeroth : 0 + n ≡ n = omega arith in
      subst (λ (j : ℕ). Contains (stores_at ns k) j) zeroth
      (number_there stores_to 0 ns n by.2.0 by.2.1 passes)

  module _ (order : List ℕ) (named : List Event) (same : AllZip (IsNumbered es) order named) where
    named_apart : StandsOnce order → StandsOnce named
    named_apart once m n e one two =
        let first : _ = at_right (IsNumbered es) order named same m e one in
        let second : _ = at_right (IsNumbered es) order named same n e two in
        let is : second.0 ≡ first.0 = are.once second.0 first.0 e second.2 first.2 in
        once m n first.0 first.1 (second.1 ∙ ap (λ (j : ℕ). Some j) is)

    order_apart : StandsOnce named → StandsOnce order
    order_apart once m n j one two =
        let first : _ = at_left (IsNumbered es) order named same m j one in
        let second : _ = at_left (IsNumbered es) order named same n j two in
        let is : second.0 ≡ first.0 = same_Some _ _ (sym second.2 ∙ first.2) in
        once m n first.0 first.1 (second.1 ∙ ap (λ (e : Event). Some e) is)

    order_by_name : IsStoreOrder ns k order → IsOrder t x l named
    order_by_name is = (
      record {
        once = once_apart named (named_apart (distinct_once order is.once));
        exact = λ e. (
          (λ there.
              let found : _ = right_there (IsNumbered es) order named same e there in
              is_store_of found.0 e found.2
              (All-contains (Contains (stores_at ns k)) order found.0 is.stores found.1)),
          (λ store.
              let found : _ = are.complete e (Stores l store.0, store.1) in
              let there : Contains order found.0 =
              has_each order (stores_at ns k) (distinct_once order is.once)
              (λ n h. All-contains (Contains (stores_at ns k)) order n is.stores h) is.each found.0
              (is_store_at found.0 e found.1 store) in
              let own : _ = left_there (IsNumbered es) order named same found.0 there in
              let one : own.0 ≡ e = same_Some _ _ (sym own.2 ∙ found.1) in
              subst (λ (f : Event). Contains named f) one own.1),
        );
      },
      let first : _ = at_left (IsNumbered es) order named same 0 k is.initial in
          let one : first.0 ≡ Initial l = same_Some _ _ (sym first.2 ∙ are.firsts k l at) in
          first.1 ∙ ap (λ (e : Event). Some e) one,
    )

    order_by_number : IsOrder t x l named → IsStoreOrder ns k order
    order_by_number is =
        let once : StandsOnce order = order_apart (apart_once named is.0.once) in
        let to : (n : ℕ) → Contains order n → Contains (stores_at ns k) n = λ n there.
        let found : _ = left_there (IsNumbered es) order named same n there in
        is_store_at n found.0 found.2 ((is.0.exact found.0).0 found.1) in
        record {
          initial =
              let first : _ = at_right (IsNumbered es) order named same 0 (Initial l) is.1 in
              let one : first.0 ≡ k =
              are.once first.0 k (Initial l) first.2 (are.firsts k l at) in
              first.1 ∙ ap (λ (n : ℕ). Some n) one;
          stores = all_of (Contains (stores_at ns k)) order to;
          each =
              as_many order (stores_at ns k) once (numbers_once stores_to 0 ns) to
              (λ n there.
              let found : _ = store_there n there in
              let own : _ = at_left (IsSameEvent t x) ns es are.alike n found.0 found.1 in
              let back : _ = right_there (IsNumbered es) order named same own.0
              ((is.0.exact own.0).1 (is_store_of n own.0 own.1 there)) in
              let one : back.0 ≡ n = are.once back.0 n own.0 back.2 own.1 in
              subst (λ (j : ℕ). Contains order j) one back.1);
          once = once_distinct order once;
        }

-- ---- The orders of all locations

locations_are : (all : List Name) (location : ℕ) (vs : List numbered_value.Value) (ls : List Name)
    → length vs ≡ length ls → ((j k : ℕ) → j ≡ location + k → slice_get all j ≡ slice_get ls k)
    → AllZip (λ k l. slice_get all k ≡ Some l) (locations_from location vs) ls
locations_are all location [] [] long at = tt
locations_are all location [] (l ∷ ls) long at = absurd (omega arith)
locations_are all location (v ∷ vs) [] long at = absurd (omega arith)
locations_are all location (v ∷ vs) (l ∷ ls) long at = (
  at location 0 (omega arith),
  locations_are all (location + 1) vs ls (omega arith)
      (λ j k e. at j (suc k) (omega (arith, e))),
)

module _ (t : Content) (x : Execution) (ns : List numbered_event.Event) (es : List Event)
    (are : AreSameEvents t x ns es) (initial : List numbered_value.Value)
    (long : length initial ≡ length (locations t)) (orders : List (List ℕ))
    (coherence : List (List Event)) (same : AllZip (AllZip (IsNumbered es)) orders coherence) where
  locations_alike : AllZip (λ k l. slice_get (locations t) k ≡ Some l) (locations_from 0 initial)
      (locations t)
  locations_alike =
      locations_are (locations t) 0 initial (locations t) long
      (λ j k e. ap (λ (n : ℕ). slice_get (locations t) n) (omega (arith, e)))

  pub orders_by_name : AllZip (IsStoreOrder ns) (locations_from 0 initial) orders
      → AllZip (IsOrder t x) (locations t) coherence
  orders_by_name h =
      carried (λ k l. slice_get (locations t) k ≡ Some l) (AllZip (IsNumbered es)) (IsStoreOrder ns)
      (IsOrder t x)
      (λ k order l named at one is. order_by_name t x ns es are k l at order named one is)
      (locations_from 0 initial) orders (locations t) coherence locations_alike same h

  pub orders_by_number : AllZip (IsOrder t x) (locations t) coherence
      → AllZip (IsStoreOrder ns) (locations_from 0 initial) orders
  orders_by_number h =
      carried (λ l k. slice_get (locations t) k ≡ Some l)
      (λ named order. AllZip (IsNumbered es) order named) (IsOrder t x) (IsStoreOrder ns)
      (λ l named k order at one is. order_by_number t x ns es are k l at order named one is)
      (locations t) coherence (locations_from 0 initial) orders
      (turned (λ k l. slice_get (locations t) k ≡ Some l) (locations_from 0 initial) (locations t)
      locations_alike)
      (turned (AllZip (IsNumbered es)) orders coherence same) h
