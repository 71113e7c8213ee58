-- Observables hold at the end by name what they hold by number.
use Rattle.std.proofs.Common.{ℕ, zero, suc, ◌≡◌, ◌<◌, ◌+◌, ◌↔◌, Bool, true, false, nat_eq, List, [], ◌∷◌, ◌++◌, map, length, get_or, Contains, Option, Some, None, option_map, unwrap_or, slice_get, refl, sym, ap, subst, ◌∙◌, arith, eqb-true, eq-eqb, if◌then◌else◌}
use Rattle.std.specs.Prelude.{option_and_then}
use Rattle.std.specs.List.{AllZip, filter_map}
use Rattle.std.proofs.lemmas.Option.{same_Some, slice_get-get_or}
use Rattle.std.proofs.lemmas.List.Quantifiers.{position-Some}
use Rattle.std.proofs.lemmas.Slice.Eq.{bytes_eq-Decides}
use Rattle.text_values.specs.declared.test.Test.{Test}
use Rattle.text_values.specs.declared.test.Place.{Place}
use Rattle.text_values.specs.declared.test.Place.TheVariants as places
use Rattle.text_values.specs.TestValue.{Content, content_of}
use Rattle.thread_runs.specs.declared.value.Value as numbered_value
use Rattle.thread_runs.specs.declared.value.Value.TheVariants as numbers
use Rattle.thread_runs.specs.declared.instruction.Program.{Program}
use Rattle.thread_runs.specs.Runs as by_number
use Rattle.ppc_lowering.specs.Lowering.{IsProgram}
use Rattle.store_orders.specs.declared.combination.Action as numbered_action
use Rattle.store_orders.specs.declared.combination.Action.TheVariants as actions
use Rattle.store_orders.specs.declared.combination.Event as numbered_event
use Rattle.candidates.specs.Executions as numbered
use Rattle.candidates.specs.Executions.{IsStoreOrder, locations_from}
use Rattle.candidates.specs.Listed.{ShowsExecution}
use Rattle.candidate_spaces.specs.Space.{Shown}
use Rattle.outcome_states.specs.declared.observable.Observable.{Observable}
use Rattle.outcome_states.specs.declared.observable.Observable.TheVariants as shown
use Rattle.outcome_states.specs.Final.{final_register, final_word, final_value, value_shown, value_stored_at, value_stored_by, last_or}
use Rattle.outcome_states.specs.Meaning.{known_observable, location_of}
use Rattle.outcome_states.specs.Names.{is_name}
use Rattle.meaning.specs.Names.{Name, locations}
use Rattle.meaning.specs.Machine.{Value, NoValue}
use Rattle.meaning.specs.Runs.{Run}
use Rattle.meaning.specs.Executions.{Event, Initial, Execution, Stores, HasAction, IsExecution, IsOrder}
use Rattle.meaning.specs.Outcome as outcome
use Rattle.meaning.specs.Outcome.{EndsWith}
use Rattle.meaning_executions.specs.Values as values
use Rattle.meaning_executions.specs.Values.{IsSameValue, AreSameValues, AreOneToOne}
use Rattle.meaning_executions.proofs.Located.{rises}
use Rattle.meaning_executions.proofs.Machines.{apart, one_to_one}
use Rattle.meaning_executions.specs.Events.{IsNumbered, named_events, AreSameEvents}
use Rattle.meaning_executions.specs.ThreadRuns as same_runs
use Rattle.meaning_executions.specs.ThreadRuns.{AreSameThreadRuns}
use Rattle.meaning_executions.proofs.Doing.{one_does}
use Rattle.meaning_executions.proofs.Knowing.{correspond}
use Rattle.meaning_executions.proofs.Lists.{at_left, at_right, member}
use Rattle.meaning_executions.proofs.Numbering.{names_once}
use Rattle.meaning_executions.proofs.Reading.{stores_by_name}
use Rattle.meaning_executions.specs.Executions.{IsSameExecution, IsProgramExecution}
use Rattle.meaning_executions.proofs.Relating.{zip_there, zip_from}
use Rattle.meaning_executions.proofs.Stores.{flat, order_of, has_store}
use Rattle.meaning_executions.specs.Ends.{HoldsAlike, EndsAreMeant}
use Rattle.meaning_executions.proofs.Lasting.{ended, last_is, last_there, zip_ended, last_found, alone}

-- ---- registers

values_at : (names : List Name) {vs : List numbered_value.Value} {ws : List Value}
    → AreSameValues names vs ws → (r : ℕ)
    → IsSameValue names (unwrap_or (slice_get vs r) numbers.NoValue)
    (unwrap_or (slice_get ws r) NoValue)
values_at names values.none r = values.nothing
values_at names (values.more same rest) zero = same
values_at names (values.more same rest) (suc r) = values_at names rest r

registers_at : (t : Content) {thread : ℕ} {rs : List by_number.Run} {qs : List Run}
    → AreSameThreadRuns t thread rs qs → (k r : ℕ)
    → IsSameValue (locations t)
    (unwrap_or
    (option_and_then (λ registers. slice_get registers r)
    (slice_get (map (λ q. q.outcome.walk.state.registers) rs) k)) numbers.NoValue)
    (unwrap_or
    (option_and_then (λ (run : Run). slice_get run.final.registers r) (slice_get qs k)) NoValue)
registers_at t same_runs.none k r = values.nothing
registers_at t (same_runs.more one rest) zero r =
    values_at (locations t) one.same.final.registers r
registers_at t (same_runs.more one rest) (suc k) r = registers_at t rest k r

-- ---- stores

one_value : {l m : Name} {v w : Value} → Stores l v ≡ Stores m w → v ≡ w
one_value e = cc

differ : (a b : ℕ) → (a ≡ b → ⊥) → nat_eq a b ≡ false
differ a b other = at (nat_eq a b) refl
  where
    at : (t : Bool) → nat_eq a b ≡ t → t ≡ false
    at true e = absurd (other (eqb-true a b e))
    at false e = refl

stored_here : (ns : List numbered_event.Event) (k n : ℕ) (d : numbered_event.Event)
    (v : numbered_value.Value) → slice_get ns n ≡ Some d → d.action ≡ actions.Store k v
    → value_stored_at ns k n ≡ Some v
stored_here ns k n d v at does =
    ap (λ (o : Option numbered_event.Event). option_and_then (λ e. value_stored_by k e.action) o) at
    ∙ (ap (λ (a : numbered_action.Action). value_stored_by k a) does
    ∙ ap (λ (b : Bool). if b then Some v else None) (eq-eqb k k refl))

stored_elsewhere : (ns : List numbered_event.Event) (k j n : ℕ) (d : numbered_event.Event)
    (v : numbered_value.Value) → slice_get ns n ≡ Some d → d.action ≡ actions.Store j v
    → (j ≡ k → ⊥) → value_stored_at ns k n ≡ None
stored_elsewhere ns k j n d v at does other =
    ap (λ (o : Option numbered_event.Event). option_and_then (λ e. value_stored_by k e.action) o) at
    ∙ (ap (λ (a : numbered_action.Action). value_stored_by k a) does
    ∙ ap (λ (b : Bool). if b then Some v else None) (differ j k other))

module _ (t : Test) (p : Program) (of : IsProgram t p) (V : List numbered_value.Value)
    (x : numbered.Execution) (is : IsProgramExecution p V x) (y : Execution)
    (by_name : IsExecution (content_of t) y) (same : IsSameExecution (content_of t) x y) (e : Shown)
    (shows : ShowsExecution p.initial.items x e) where
  abbrev content : Content
  content = content_of t

  abbrev es : List Event
  es = named_events content y.runs

  abbrev ns : List numbered_event.Event
  ns = e.events

  are : AreSameEvents content y ns es
  are =
      subst (λ (ds : List numbered_event.Event). AreSameEvents content y ds es) (sym shows.events)
      (correspond t p of x.runs y same.runs by_name.runs)

  orders : AllZip (IsStoreOrder ns) (locations_from 0 p.initial.items) x.coherence
  orders =
      subst
      (λ (ds : List numbered_event.Event). AllZip (IsStoreOrder ds)
      (locations_from 0 p.initial.items) x.coherence) (sym shows.events) is.orders

  one : AreOneToOne (locations content)
  one = one_to_one (locations content) (apart (locations content) (rises content))

  -- what holds of a value by name that is the same
  exactly : (v : numbered_value.Value) (u : Value) → IsSameValue (locations content) v u
      → (w : Value) → (w ≡ u) ↔ IsSameValue (locations content) v w
  exactly v u h w = (
    λ same_one. subst (λ (z : Value). IsSameValue (locations content) v z) (sym same_one) h,
    λ g. one.by_name v w u g h,
  )

  register_holds : (thread r : ℕ)
      → HoldsAlike content y e (places.Register thread r) (shown.Register thread r)
  register_holds thread r = record {
    value = final_register e thread r;
    by_number = refl;
    by_name =
        exactly (final_register e thread r) (outcome.final_register y thread r)
        (subst
        (λ (vss : List (List numbered_value.Value)). IsSameValue (locations content)
        (unwrap_or (option_and_then (λ registers. slice_get registers r) (slice_get vss thread))
        numbers.NoValue) (outcome.final_register y thread r)) (sym shows.registers)
        (registers_at content same.runs thread r));
  }

  -- ---- locations

  module _ (k : ℕ) (l : Name) (at : slice_get (locations content) k ≡ Some l) (order : List Event)
      (stands : slice_get y.coherence k ≡ Some order) (o : List ℕ)
      (there : slice_get x.coherence k ≡ Some o) (alike : AllZip (IsNumbered es) o order)
      (before : List ℕ) (n : ℕ) (ends : o ≡ before ++ n ∷ []) where
    in_order : Contains o n
    in_order =
        subst (λ (ns : List ℕ). Contains ns n) (sym ends)
        (member (before ++ n ∷ []) (length before + 0) n (last_there before n))

    store : (d : numbered_event.Event) × (slice_get ns n ≡ Some d) × (v : numbered_value.Value)
        × (d.action ≡ actions.Store k v)
    store =
        has_store content y ns are p.initial.items x.coherence same.coherence orders k o n there
        in_order

    last_word : final_word e k ≡ store.2
    last_word =
        ap
        (λ (ms : List ℕ). last_or numbers.NoValue (filter_map (value_stored_at ns k) ms))
        shows.coherence
        ∙ (ap (λ (vs : List numbered_value.Value). last_or numbers.NoValue vs)
        (alone (value_stored_at ns k) x.coherence k o there
        (λ j u m stands_at other c.
        let own : _ =
        has_store content y ns are p.initial.items x.coherence same.coherence orders j u m stands_at c in
        stored_elsewhere ns k j m own.0 own.2 own.1 own.3 other))
        ∙ (ap
        (λ (ms : List ℕ). last_or numbers.NoValue (filter_map (value_stored_at ns k) ms)) ends
        ∙ last_found (value_stored_at ns k) numbers.NoValue before n store.2
        (stored_here ns k n store.0 store.2 store.1 store.3)))

    last_event : (first : List Event) × (f : Event) × (order ≡ first ++ f ∷ []) × IsNumbered es n f
    last_event =
        zip_ended (IsNumbered es) before n order
        (subst (λ (ms : List ℕ). AllZip (IsNumbered es) ms order) ends alike)

    named_store : (m : Name) × (w : Value) × HasAction content y last_event.1 (Stores m w)
        × (slice_get (locations content) k ≡ Some m)
        × IsSameValue (locations content) store.2 w
    named_store =
        let by : _ =
        stores_by_name content y ns es are n last_event.1 last_event.3 k store.2
        (store.0, store.1, store.3) in
        (by.0, by.1, by.2, by.3.location, by.3.value)

    has_it : HasAction content y last_event.1 (Stores l named_store.1)
    has_it =
        let place : named_store.0 ≡ l = same_Some _ _ (sym named_store.3 ∙ at) in
        subst (λ (m : Name). HasAction content y last_event.1 (Stores m named_store.1)) place
        named_store.2

    ends_so : (w : Value) → EndsWith content y (places.Location l) w → w ≡ named_store.1
    ends_so w (other, first, f, c, eq, has) =
        let found : _ = zip_from (locations content) y.coherence l other c in
        let index : found.0 ≡ k = names_once content found.0 k l found.1 at in
        let same_order : other ≡ order =
        same_Some _ _
        (sym found.2
        ∙ (ap (λ (i : ℕ). slice_get y.coherence i) index ∙ stands)) in
        let same_last : f ≡ last_event.1 =
        sym (last_is (Initial []) first f)
        ∙ (ap (λ (fs : List Event). last_or (Initial []) fs)
        (sym eq ∙ (same_order ∙ last_event.2))
        ∙ last_is (Initial []) last_event.0 last_event.1) in
        one_value
        (one_does content y last_event.1 (Stores l w) (Stores l named_store.1)
        (subst (λ (g : Event). HasAction content y g (Stores l w)) same_last has) has_it)

    so_ends : (w : Value) → w ≡ named_store.1 → EndsWith content y (places.Location l) w
    so_ends w is_it = (
      order,
      last_event.0,
      last_event.1,
      zip_there (locations content) y.coherence k l order at stands,
      last_event.2,
      subst (λ (u : Value). HasAction content y last_event.1 (Stores l u)) (sym is_it) has_it,
    )

    word_holds : HoldsAlike content y e (places.Location l) (shown.Location k)
    word_holds = record {
      value = store.2;
      by_number = ap value_shown last_word;
      by_name = λ w. (
        λ h. (exactly store.2 named_store.1 named_store.4 w).0 (ends_so w h),
        λ h. so_ends w ((exactly store.2 named_store.1 named_store.4 w).1 h),
      );
    }

  location_holds : (k : ℕ) (l : Name) → slice_get (locations content) k ≡ Some l
      → HoldsAlike content y e (places.Location l) (shown.Location k)
  location_holds k l at =
      let named : _ =
      at_left (IsOrder content y) (locations content) y.coherence by_name.orders k l at in
      let own : _ =
      at_right (AllZip (IsNumbered es)) x.coherence y.coherence same.coherence k named.0 named.1 in
      let first : slice_get own.0 0 ≡ Some k =
      (order_of content y ns are p.initial.items x.coherence same.coherence orders k own.0 own.1).initial in
      let cut : _ = cut_at own.0 first in
      word_holds k l at named.0 named.1 own.0 own.1 own.2 cut.0 cut.1 cut.2
    where
      cut_at : (o : List ℕ) → slice_get o 0 ≡ Some k
          → (before : List ℕ) × (n : ℕ) × (o ≡ before ++ n ∷ [])
      cut_at [] h = absurd (let f : None ≡ Some k = h in cc)
      cut_at (m ∷ ms) h = ended m ms

  -- ---- observables

  same_observable : {a b : Observable} → Some a ≡ Some b → a ≡ b
  same_observable h = cc

  pub holds : (place : Place) (o : Observable)
      → known_observable (locations content) place ≡ Some o → HoldsAlike content y e place o
  holds (places.Register thread r) o known =
      subst (λ (q : Observable). HoldsAlike content y e (places.Register thread r) q)
      (same_observable known) (register_holds thread r)
  holds (places.Location l) o known = at (location_of (locations content) l) refl known
    where
      at : (i : Option ℕ) → location_of (locations content) l ≡ i
          → option_map shown.Location i ≡ Some o
          → HoldsAlike content y e (places.Location l) o
      at None found h = absurd (let f : None ≡ Some o = h in cc)
      at (Some k) found h =
          let is_there : _ = position-Some (is_name l) (locations content) k [] found in
          let name : l ≡ get_or (locations content) k [] =
          (bytes_eq-Decides l (get_or (locations content) k [])).0 is_there.1 in
          subst (λ (q : Observable). HoldsAlike content y e (places.Location l) q)
          (same_observable h)
          (location_holds k l
          (slice_get-get_or (locations content) k [] is_there.0
          ∙ ap (λ (m : Name). Some m) (sym name)))

pub all_hold : EndsAreMeant
all_hold t p of values x is y by_name same e shows place o known =
    holds t p of values x is y by_name same e shows place o known
