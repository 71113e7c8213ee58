-- A load may read the same stores by number and by name.
use Rattle.std.proofs.Common.{ℕ, ◌≡◌, ◌<◌, List, [], length, get_or, Some, slice_get, refl, sym, ap, subst, ◌∙◌}
use Rattle.std.specs.List.{AllZip}
use Rattle.std.proofs.lemmas.Option.{same_Some, slice_get-get_or}
use Rattle.text_values.specs.TestValue.{Content}
use Rattle.thread_runs.specs.declared.value.Value as numbered_value
use Rattle.store_orders.specs.declared.combination.Action as numbered_action
use Rattle.store_orders.specs.declared.combination.Action.TheVariants as actions
use Rattle.store_orders.specs.declared.combination.Event as numbered_event
use Rattle.candidates.specs.Executions as candidates
use Rattle.meaning.specs.Names.{Name, locations}
use Rattle.meaning.specs.Machine.{Value}
use Rattle.meaning.specs.Executions.{Event, Initial, Execution, Action, Loads, Stores, HasAction, IsEvent, MayRead, loads_in}
use Rattle.meaning_executions.specs.Values.{IsSameValue, AreOneToOne}
use Rattle.meaning_executions.proofs.Located.{rises}
use Rattle.meaning_executions.proofs.Machines.{apart, one_to_one}
use Rattle.meaning_executions.specs.Events.{IsNumbered, IsSameAction, loads, stores, fences, IsSameEvent, AreSameEvents}
use Rattle.meaning_executions.proofs.Lists.{at_right, turned, carried, StandsOnce}
use Rattle.meaning_executions.proofs.Doing.{one_does}
use Rattle.meaning_executions.proofs.Numbering.{names_once}

-- ---- Actions

load_location : {k l : ℕ} {v w : numbered_value.Value} → actions.Load k v ≡ actions.Load l w → k ≡ l
load_location e = cc

load_value : {k l : ℕ} {v w : numbered_value.Value} → actions.Load k v ≡ actions.Load l w → v ≡ w
load_value e = cc

store_location : {k l : ℕ} {v w : numbered_value.Value} → actions.Store k v ≡ actions.Store l w
    → k ≡ l
store_location e = cc

store_value : {k l : ℕ} {v w : numbered_value.Value} → actions.Store k v ≡ actions.Store l w → v ≡ w
store_value e = cc

loads_location : {k l : Name} {v w : Value} → Loads k v ≡ Loads l w → k ≡ l
loads_location e = cc

loads_value : {k l : Name} {v w : Value} → Loads k v ≡ Loads l w → v ≡ w
loads_value e = cc

stores_location : {k l : Name} {v w : Value} → Stores k v ≡ Stores l w → k ≡ l
stores_location e = cc

stores_value : {k l : Name} {v w : Value} → Stores k v ≡ Stores l w → v ≡ w
stores_value e = cc

-- what is said of an action of which the other form is known: its location and its value
pub record Named (names : List Name) (k : ℕ) (v : numbered_value.Value) (l : Name) (w : Value)
    : Type 0 where
  pub location : slice_get names k ≡ Some l
  pub value : IsSameValue names v w

named_at : (names : List Name) (k : ℕ) (v : numbered_value.Value) (w : Value) → k < length names
    → IsSameValue names v w → Named names k v (get_or names k []) w
named_at names k v w lt value =
    record { location = slice_get-get_or names k [] lt; value = value }

module _ (names : List Name) where
  pub load_by_name : {a : numbered_action.Action} {b : Action} → IsSameAction names a b → (k : ℕ)
      (v : numbered_value.Value) → a ≡ actions.Load k v
      → (l : Name) × (w : Value) × (b ≡ Loads l w) × Named names k v l w
  load_by_name (loads i {v = u} {w = w} lt value) k v e =
      let at : i ≡ k = load_location e in
      let is : u ≡ v = load_value e in (
        get_or names i [],
        w,
        refl,
        subst (λ (y : numbered_value.Value). Named names k y (get_or names i []) w) is
            (subst (λ (j : ℕ). Named names j u (get_or names i []) w) at
            (named_at names i u w lt value)),
      )
  load_by_name (stores i lt value) k v e = absurd cc
  load_by_name (fences f) k v e = absurd cc

  pub store_by_name : {a : numbered_action.Action} {b : Action} → IsSameAction names a b → (k : ℕ)
      (v : numbered_value.Value) → a ≡ actions.Store k v
      → (l : Name) × (w : Value) × (b ≡ Stores l w) × Named names k v l w
  store_by_name (loads i lt value) k v e = absurd cc
  store_by_name (stores i {v = u} {w = w} lt value) k v e =
      let at : i ≡ k = store_location e in
      let is : u ≡ v = store_value e in (
        get_or names i [],
        w,
        refl,
        subst (λ (y : numbered_value.Value). Named names k y (get_or names i []) w) is
            (subst (λ (j : ℕ). Named names j u (get_or names i []) w) at
            (named_at names i u w lt value)),
      )
  store_by_name (fences f) k v e = absurd cc

  pub load_by_number : {a : numbered_action.Action} {b : Action} → IsSameAction names a b
      → (l : Name) (w : Value) → b ≡ Loads l w
      → (k : ℕ) × (v : numbered_value.Value) × (a ≡ actions.Load k v) × Named names k v l w
  load_by_number (loads i {v = v} {w = u} lt value) l w e =
      let at : get_or names i [] ≡ l = loads_location e in
      let is : u ≡ w = loads_value e in (
        i,
        v,
        refl,
        subst (λ (y : Value). Named names i v l y) is
            (subst (λ (m : Name). Named names i v m u) at (named_at names i v u lt value)),
      )
  load_by_number (stores i lt value) l w e = absurd cc
  load_by_number (fences f) l w e = absurd cc

  pub store_by_number : {a : numbered_action.Action} {b : Action} → IsSameAction names a b
      → (l : Name) (w : Value) → b ≡ Stores l w
      → (k : ℕ) × (v : numbered_value.Value) × (a ≡ actions.Store k v) × Named names k v l w
  store_by_number (loads i lt value) l w e = absurd cc
  store_by_number (stores i {v = v} {w = u} lt value) l w e =
      let at : get_or names i [] ≡ l = stores_location e in
      let is : u ≡ w = stores_value e in (
        i,
        v,
        refl,
        subst (λ (y : Value). Named names i v l y) is
            (subst (λ (m : Name). Named names i v m u) at (named_at names i v u lt value)),
      )
  store_by_number (fences f) l w e = absurd cc

module _ (t : Content) (x : Execution) (ns : List numbered_event.Event) (es : List Event)
    (are : AreSameEvents t x ns es) where
  abbrev names : List Name
  names = locations t

  values_are : AreOneToOne names
  values_are = one_to_one names (apart names (rises t))

  pub event_at : (n : ℕ) (e : Event) → IsNumbered es n e
      → (d : numbered_event.Event) × (slice_get ns n ≡ Some d) × IsSameEvent t x d e
  event_at n e at = at_right (IsSameEvent t x) ns es are.alike n e at

  -- what an event by number does, it does by name
  pub loads_by_name : (n : ℕ) (e : Event) → IsNumbered es n e → (k : ℕ) (v : numbered_value.Value)
      → candidates.Does ns n (actions.Load k v)
      → (l : Name) × (w : Value) × HasAction t x e (Loads l w) × Named names k v l w
  loads_by_name n e at k v (d, there, is) =
      let found : _ = event_at n e at in
      let same : found.0 ≡ d = same_Some _ _ (sym found.1 ∙ there) in
      let by : _ = load_by_name names found.2.same k v
      (ap (λ (c : numbered_event.Event). c.action) same ∙ is) in
      (by.0, by.1, subst (λ (a : Action). HasAction t x e a) by.2 found.2.does, by.3)

  pub stores_by_name : (n : ℕ) (e : Event) → IsNumbered es n e → (k : ℕ) (v : numbered_value.Value)
      → candidates.Does ns n (actions.Store k v)
      → (l : Name) × (w : Value) × HasAction t x e (Stores l w) × Named names k v l w
  stores_by_name n e at k v (d, there, is) =
      let found : _ = event_at n e at in
      let same : found.0 ≡ d = same_Some _ _ (sym found.1 ∙ there) in
      let by : _ = store_by_name names found.2.same k v
      (ap (λ (c : numbered_event.Event). c.action) same ∙ is) in
      (by.0, by.1, subst (λ (a : Action). HasAction t x e a) by.2 found.2.does, by.3)

  pub loads_by_number : (n : ℕ) (e : Event) → IsNumbered es n e → (l : Name) (w : Value)
      → HasAction t x e (Loads l w)
      → (k : ℕ) × (v : numbered_value.Value) × candidates.Does ns n (actions.Load k v)
      × Named names k v l w
  loads_by_number n e at l w has =
      let found : _ = event_at n e at in
      let by : _ = load_by_number names found.2.same l w
      (one_does t x e found.2.action (Loads l w) found.2.does has) in
      (by.0, by.1, (found.0, found.1, by.2), by.3)

  pub stores_by_number : (n : ℕ) (e : Event) → IsNumbered es n e → (l : Name) (w : Value)
      → HasAction t x e (Stores l w)
      → (k : ℕ) × (v : numbered_value.Value) × candidates.Does ns n (actions.Store k v)
      × Named names k v l w
  stores_by_number n e at l w has =
      let found : _ = event_at n e at in
      let by : _ = store_by_number names found.2.same l w
      (one_does t x e found.2.action (Stores l w) found.2.does has) in
      (by.0, by.1, (found.0, found.1, by.2), by.3)

  -- ---- What a load may read

  pub may_read_by_name : (m n : ℕ) (a b : Event) → IsNumbered es m a → IsNumbered es n b
      → candidates.MayRead ns m n → MayRead t x a b
  may_read_by_name m n a b at there (k, v, loading, storing) =
      let first : _ = loads_by_name m a at k v loading in
      let second : _ = stores_by_name n b there k v storing in
      let place : second.0 ≡ first.0 =
      same_Some _ _ (sym second.3.location ∙ first.3.location) in
      let value : second.1 ≡ first.1 =
      values_are.by_name v second.1 first.1 second.3.value first.3.value in (
        first.0,
        first.1,
        first.2,
        subst (λ (w : Value). HasAction t x b (Stores first.0 w)) value
            (subst (λ (l : Name). HasAction t x b (Stores l second.1)) place second.2),
      )

  pub may_read_by_number : (m n : ℕ) (a b : Event) → IsNumbered es m a → IsNumbered es n b
      → MayRead t x a b → candidates.MayRead ns m n
  may_read_by_number m n a b at there (l, w, loading, storing) =
      let first : _ = loads_by_number m a at l w loading in
      let second : _ = stores_by_number n b there l w storing in
      let place : second.0 ≡ first.0 =
      names_once t second.0 first.0 l second.3.location first.3.location in
      let value : second.1 ≡ first.1 =
      values_are.by_number second.1 first.1 w second.3.value first.3.value in (
        first.0,
        first.1,
        first.2,
        subst (λ (v : numbered_value.Value). candidates.Does ns n (actions.Store first.0 v)) value
            (subst (λ (k : ℕ). candidates.Does ns n (actions.Store k second.1)) place second.2),
      )

  module _ (xs : List ℕ) (ys : List Event) (same : AllZip (IsNumbered es) xs ys) where
    pub reads_by_name : AllZip (candidates.MayRead ns) (candidates.loads ns) xs
        → AllZip (MayRead t x) (loads_in 0 x.runs) ys
    reads_by_name h =
        carried (IsNumbered es) (IsNumbered es) (candidates.MayRead ns) (MayRead t x)
        (λ m n a b. may_read_by_name m n a b) (candidates.loads ns) xs (loads_in 0 x.runs) ys
        are.loads same h

    pub reads_by_number : AllZip (MayRead t x) (loads_in 0 x.runs) ys
        → AllZip (candidates.MayRead ns) (candidates.loads ns) xs
    reads_by_number h =
        carried (λ a m. IsNumbered es m a) (λ a m. IsNumbered es m a) (MayRead t x)
        (candidates.MayRead ns) (λ a b m n at there. may_read_by_number m n a b at there)
        (loads_in 0 x.runs) ys (candidates.loads ns) xs
        (turned (IsNumbered es) (candidates.loads ns) (loads_in 0 x.runs) are.loads)
        (turned (IsNumbered es) xs ys same) h
