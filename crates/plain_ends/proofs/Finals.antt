-- What a location holds at the end: what the last store of its order stores.
use denote.Ref.{Bor}
use Rattle.std.proofs.Common.{Vec, ◌≡◌, ◌↔◌, ℕ, zero, suc, ◌<◌, ◌≤◌, List, [], ◌∷◌, ◌++◌, length, map, zip, get_or, Contains, Option, Some, None, option_map, slice_get, refl, sym, ap, subst, ◌∙◌, arith}
use Rattle.std.specs.List.{IsLastAndRest}
use Rattle.std.specs.declared.alloc.Global.{Global}
use Rattle.std.proofs.lemmas.List.{map-append, length-map, length-append}
use Rattle.std.proofs.lemmas.Option.{slice_get-map, slice_get-get_or, slice_get_past, same_Some, none-some}
use Rattle.text_values.specs.declared.test.Place.{Place}
use Rattle.text_values.specs.declared.test.Place.TheVariants.{Location}
use Rattle.text_values.specs.TestValue.{Content}
use Rattle.meaning.specs.Names.{Name, locations}
use Rattle.meaning.specs.Machine as machine
use Rattle.meaning.specs.Executions.{Event, Execution, Stores, HasAction, IsExecution}
use Rattle.meaning.specs.Outcome.{IsFinalValue, EndsWith, observables}
use Rattle.meaning.proofs.Counting.{lasts_are_one}
use Rattle.meanings_exist.proofs.Ending.{observable_ends}
use Rattle.plain_machine.specs.declared.value.Value.{Value}
use Rattle.plain_machine.specs.Values.{value_as}
use Rattle.plain_runs.specs.Locations.{names_as}
use Rattle.plain_events.specs.declared.event.Event as code
use Rattle.plain_events.specs.declared.event.Action as code_actions
use Rattle.plain_events.specs.Events.{event_as, IsFound, IsActionOfEvent}
use Rattle.plain_events.proofs.Doing.{same_action}
use Rattle.plain_events.proofs.Standing.{locations_once}
use Rattle.plain_executions.specs.Executions.{event_lists_as}
use Rattle.plain_executions.proofs.Indexing.{one_index, stands}
use Rattle.plain_executions.proofs.Pairing.{pair_same}
use Rattle.plain_ends.specs.Ends.{IsLastAt, IsEventFound, IsValueFound, IsEnding}

-- ---- what stands beside a thing of a list

zip_index : {X Y : Type 0} (xs : List X) (ys : List Y) (x : X) (y : Y)
    → Contains (zip xs ys) (x, y) → (k : ℕ) × (slice_get xs k ≡ Some x) × (slice_get ys k ≡ Some y)
zip_index [] ys x y there = absurd (omega (arith, there.1))
zip_index (z ∷ xs) [] x y there = absurd (omega (arith, there.1))
zip_index {X} {Y} (z ∷ xs) (w ∷ ys) x y (zero, lt, at) =
    let parts : (z ≡ x) × (w ≡ y) = (pair_same z x w y).1 at in
    (0, ap (λ (a : X). Some a) parts.0, ap (λ (b : Y). Some b) parts.1)
zip_index (z ∷ xs) (w ∷ ys) x y (suc k, lt, at) =
    let rest : _ = zip_index xs ys x y (k, omega (arith, lt), at) in
    (suc rest.0, rest.1, rest.2)

zip_there : {X Y : Type 0} (xs : List X) (ys : List Y) (k : ℕ) (x : X) (y : Y)
    → slice_get xs k ≡ Some x → slice_get ys k ≡ Some y → Contains (zip xs ys) (x, y)
zip_there [] ys k x y at also = absurd (none-some x at)
zip_there (z ∷ xs) [] k x y at also = absurd (none-some y also)
zip_there (z ∷ xs) (w ∷ ys) zero x y at also =
    (0, omega arith, (pair_same z x w y).0 (same_Some z x at, same_Some w y also))
zip_there (z ∷ xs) (w ∷ ys) (suc k) x y at also =
    let rest : _ = zip_there xs ys k x y at also in (suc rest.0, omega (arith, rest.1), rest.2)

-- ---- the value of a location

module _ (t : Content) (x : Execution) (l : Name) (index : ℕ)
    (at : slice_get (locations t) index ≡ Some l) where
  to_last : (v : machine.Value) → IsFinalValue t x l v
      → (e : Event) × IsLastAt x.coherence index e × HasAction t x e (Stores l v)
  to_last v (order, before, last, there, is, has) =
      let found : _ = zip_index (locations t) x.coherence l order there in
      let same : found.0 ≡ index =
      one_index (locations t) found.0 index l (locations_once t) found.1 at in (
        last,
        (
          order,
          before,
          subst (λ (k : ℕ). slice_get x.coherence k ≡ Some order) same found.2,
          is,
        ),
        has,
      )

  from_last : (v : machine.Value) (e : Event) → IsLastAt x.coherence index e
      → HasAction t x e (Stores l v) → IsFinalValue t x l v
  from_last v e (order, before, there, is) has =
      (order, before, e, zip_there (locations t) x.coherence index l order at there, is, has)

  -- what the last store stores, as it is found
  pub some_last : (last : code.Event) (found : Option code_actions.Action) (result : Option Value)
      → ((e : Event) → IsEventFound (Some last) e ↔ IsLastAt x.coherence index e)
      → IsActionOfEvent t x.runs (event_as last) found
      → ((v : machine.Value) → IsValueFound result v ↔ IsFound found (Stores l v))
      → (v : machine.Value) → IsValueFound result v ↔ IsFinalValue t x l v
  some_last last found result lasts does stored v = (to, back)
    where
      to : IsValueFound result v → IsFinalValue t x l v
      to is =
          from_last v (event_as last) ((lasts (event_as last)).0 refl)
          ((same_action t x (event_as last) (Stores l v)).0
          ((does (Stores l v)).0 ((stored v).0 is)))

      back : IsFinalValue t x l v → IsValueFound result v
      back is =
          let end : (e : Event) × IsLastAt x.coherence index e × HasAction t x e (Stores l v) = to_last v is in
          let same : event_as last ≡ end.0 = same_Some _ _ ((lasts end.0).1 end.1) in
          (stored v).1
          ((does (Stores l v)).1
          ((same_action t x (event_as last) (Stores l v)).1
          (subst (λ (e : Event). HasAction t x e (Stores l v)) (sym same) end.2)))

  pub none_last : ((e : Event) → IsEventFound None e ↔ IsLastAt x.coherence index e)
      → (v : machine.Value) → IsValueFound None v ↔ IsFinalValue t x l v
  none_last lasts v = (
    λ is. absurd (none-some v is),
    λ is. let end : (e : Event) × IsLastAt x.coherence index e × HasAction t x e (Stores l v) = to_last v is in
        absurd (none-some end.0 ((lasts end.0).1 end.1)),
  )

pub no_location : (t : Content) (x : Execution) (l : Name) → (Contains (locations t) l → ⊥)
    → (v : machine.Value) → IsValueFound None v ↔ IsFinalValue t x l v
no_location t x l none v = (
  λ is. absurd (none-some v is),
  λ is. let found : _ = zip_index (locations t) x.coherence l is.0 is.3 in
      absurd (none (stands (locations t) found.0 l found.1)),
)

pub location_ends : (t : Content) (x : Execution) (p : Place) (l m : Name) (found : Option Value)
    → p ≡ Location m → l ≡ m → ((v : machine.Value) → IsValueFound found v ↔ IsFinalValue t x l v)
    → IsEnding t x p found
location_ends t x p l m found is same ends =
    subst (λ (q : Place). IsEnding t x q found) (sym is)
    (subst (λ (n : Name). (v : machine.Value) → IsValueFound found v ↔ IsFinalValue t x n v) same ends)

-- an observable that is found to end with a value
pub ends_there : (t : Content) (x : Execution) (p : Place) (found : Option Value) (v : Value)
    → IsEnding t x p found → found ≡ Some v → EndsWith t x p (value_as v)
ends_there t x p found v ends is =
    (ends (value_as v)).0 (ap (λ (o : Option Value). option_map value_as o) is)

-- an observable of the test ends with something
pub holds_something : (t : Content) (x : Execution) (p : Place) (found : Option Value)
    → IsExecution t x → Contains (observables t) p → IsEnding t x p found → found ≡ None → ⊥
holds_something t x p found is there ends none =
    let held : _ = observable_ends t x is p there in
    none-some held.0
    (sym (ap (λ (o : Option Value). option_map value_as o) none) ∙ (ends held.0).1 held.1)

pub name_there : (names : List (Bor (List ℕ))) (k : ℕ) (d : Bor (List ℕ)) (l : Name)
    → k < length names → (get_or names k d).now ≡ l → slice_get (names_as names) k ≡ Some l
name_there names k d l lt is =
    slice_get-map (λ (n : Bor (List ℕ)). n.now) names k
    ∙ ap (λ (o : Option (Bor (List ℕ))). option_map (λ (n : Bor (List ℕ)). n.now) o) (slice_get-get_or names k d lt)
    ∙ ap (λ (n : Name). Some n) is

-- ---- the last event of an order

module _ (orders : List (Vec code.Event Global)) (index : ℕ) where
  order_at : (d : Vec code.Event Global) → index < length orders
      → slice_get (event_lists_as orders) index ≡ Some (map event_as (get_or orders index d).items)
  order_at d lt =
      slice_get-map (λ (v : Vec code.Event Global). map event_as v.items) orders index
      ∙ ap
      (λ (o : Option (Vec code.Event Global)). option_map (λ (v : Vec code.Event Global). map event_as v.items) o)
      (slice_get-get_or orders index d lt)

  pub no_order : length orders ≤ index → (e : Event)
      → IsEventFound None e ↔ IsLastAt (event_lists_as orders) index e
  no_order le e = (
    λ is. absurd (none-some e is),
    λ is. absurd
        (none-some is.0
        (sym (slice_get_past (event_lists_as orders) index (omega (arith, length-map orders (λ (v : Vec code.Event Global). map event_as v.items), le)))
        ∙ is.2)),
  )

  module _ (d : Vec code.Event Global) (lt : index < length orders) (order : List code.Event)
      (is_order : order ≡ (get_or orders index d).items) where
    stands_there : slice_get (event_lists_as orders) index ≡ Some (map event_as order)
    stands_there =
        order_at d lt ∙ ap (λ (es : List code.Event). Some (map event_as es)) (sym is_order)

    pub last_found : (last : code.Event) (rest : List code.Event) → IsLastAndRest order last rest
        → (e : Event) → IsEventFound (Some last) e ↔ IsLastAt (event_lists_as orders) index e
    last_found last rest split e = (to, back)
      where
        parts : map event_as order ≡ map event_as rest ++ event_as last ∷ []
        parts =
            ap (λ (es : List code.Event). map event_as es) split.0
            ∙ map-append event_as rest (last ∷ [])

        to : IsEventFound (Some last) e → IsLastAt (event_lists_as orders) index e
        to is = (
          map event_as order,
          map event_as rest,
          stands_there,
          parts ∙ ap (λ (a : Event). map event_as rest ++ a ∷ []) (same_Some (event_as last) e is),
        )

        back : IsLastAt (event_lists_as orders) index e → IsEventFound (Some last) e
        back (other, before, at, is) =
            let same : other ≡ map event_as order = same_Some _ _ (sym at ∙ stands_there) in
            ap (λ (a : Event). Some a)
            (lasts_are_one (map event_as rest) before (event_as last) e
            (sym parts ∙ sym same ∙ is))

    pub no_last : length order ≡ 0 → (e : Event)
        → IsEventFound None e ↔ IsLastAt (event_lists_as orders) index e
    no_last empty e = ((λ is. absurd (none-some e is)), back)
      where
        back : IsLastAt (event_lists_as orders) index e → IsEventFound None e
        back (other, before, at, is) =
            let same : other ≡ map event_as order = same_Some _ _ (sym at ∙ stands_there) in
            let long : length (map event_as order) ≡ length order = length-map order event_as in
            let both : length (before ++ e ∷ []) ≡ length (map event_as order) =
            ap (λ (es : List Event). length es) (sym is ∙ same) in
            absurd (omega (arith, length-append before (e ∷ []), long, both, empty))
