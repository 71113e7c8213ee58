-- A coherence covers each store.
use Rattle.std.proofs.Common.{ℕ, zero, suc, ◌≡◌, ◌<◌, ◌≤◌, ◌+◌, Bool, true, false, ◌||◌, nat_eq, List, [], ◌∷◌, ◌++◌, length, get_or, Some, slice_get, refl, ap, sym, subst, ◌∙◌, inl, inr, arith, Contains}
use Rattle.std.specs.List.{AllZip}
use Rattle.std.proofs.lemmas.Bool.{eqb-true, eq-eqb, or_parts}
use Rattle.std.proofs.lemmas.Option.{slice_get_within, slice_get-get_or}
use Rattle.std.proofs.lemmas.List.Elements.{All-contains, Contains-append_cases}
use Rattle.text_values.specs.declared.test.Test.{Test}
use Rattle.thread_runs.proofs.RunsExact.{contains_one}
use Rattle.thread_runs.specs.declared.value.Value.{Value}
use Rattle.thread_runs.specs.declared.value.Value.TheVariants.{Number, Address, NoValue}
use Rattle.thread_runs.specs.declared.instruction.Event as run
use Rattle.thread_runs.specs.declared.instruction.Event.TheVariants as run_event
use Rattle.thread_runs.specs.Runs.{Run, walk_at}
use Rattle.ppc_lowering.specs.Domain.{threads_of, load_total}
use Rattle.candidates.proofs.Addresses.{AllBelow, one_below, run_kept, begins_kept, domain_below}
use Rattle.candidates.proofs.AnyValues.{RunOf, thread_of_run}
use Rattle.candidates.proofs.Elements.{member_cases, member_first, member_later, no_member, joined}
use Rattle.candidates.proofs.NoLocation.{over_any_domain}
use Rattle.run_combinations.proofs.Numbers.{Numbered, contained, number_there}
use Rattle.candidates.proofs.OneOutcome.{without, one_fewer, still_there}
use Rattle.store_orders.specs.Events.{AreDistinct, has_store, action_in, with_action, thread_events, initial_stores, is_store, is_store_to}
use Rattle.candidates.specs.Executions.{IsExecution, IsStoreOrder, events, events_from, stores_at, locations_from}
use Rattle.candidates.specs.Laws.{CoversEachStore}
use Rattle.store_orders.specs.declared.combination.Action.{Action}
use Rattle.store_orders.specs.declared.combination.Action.TheVariants.{Load, Store, Fence}
use Rattle.store_orders.specs.declared.combination.Event.{Event}

-- each of the events stores at one of the first locations, if it is a store
abbrev StoresBelow : ℕ → List Event → Type 0
StoresBelow n es = (e : Event) (l : ℕ) (v : Value) → Contains es e → e.action ≡ Store l v → l < n

both_stores : (n : ℕ) (es fs : List Event) → StoresBelow n es → StoresBelow n fs
    → StoresBelow n (es ++ fs)
both_stores n es fs h k e l v c w =
    elim (Contains-append_cases es fs e c) [ inl a ↦ h e l v a w | inr b ↦ k e l v b w ]

location_is : {k l : ℕ} {v w : Value} → Store k v ≡ Store l w → k ≡ l
location_is e = cc

no_store : {k l : ℕ} {v w : Value} → Load k v ≡ Store l w → ⊥
no_store e = cc

no_fence : {l : ℕ} {w : Value} {f : _} → Fence f ≡ Store l w → ⊥
no_fence e = cc

initial_stores_below : (n k : ℕ) (vs : List Value) → k + length vs ≤ n
    → StoresBelow n (initial_stores k vs)
initial_stores_below n k [] le e l v c w = absurd (no_member e c)
initial_stores_below n k (x ∷ vs) le e l v c w =
    elim (member_cases _ (initial_stores (k + 1) vs) e c) [
      | inl same ↦
          let at : k ≡ l = location_is (ap (λ (d : Event). d.action) same ∙ w) in omega (arith, at, le)
      | inr d ↦ initial_stores_below n (k + 1) vs (omega (arith, le)) e l v d w
    ]

action_below : (n thread : ℕ) (x : run.Event) → AllBelow n (x ∷ [])
    → StoresBelow n (with_action thread (action_in x))
action_below n thread (run_event.Load (Address k) x) h e l v c w =
    absurd (no_store (ap (λ (d : Event). d.action) (contains_one _ e c) ∙ w))
action_below n thread (run_event.Load (Number k) x) h e l v c w = absurd (no_member e c)
action_below n thread (run_event.Load NoValue x) h e l v c w = absurd (no_member e c)
action_below n thread (run_event.Store (Address k) x) h e l v c w =
    let at : k ≡ l = location_is (ap (λ (d : Event). d.action) (contains_one _ e c) ∙ w) in
    let lt : k < n = h.0.0 in omega (arith, at, lt)
action_below n thread (run_event.Store (Number k) x) h e l v c w = absurd (no_member e c)
action_below n thread (run_event.Store NoValue x) h e l v c w = absurd (no_member e c)
action_below n thread (run_event.Fence f) h e l v c w =
    absurd (no_fence (ap (λ (d : Event). d.action) (contains_one _ e c) ∙ w))

thread_stores_below : (n thread : ℕ) (es : List run.Event) → AllBelow n es
    → StoresBelow n (thread_events thread es)
thread_stores_below n thread es h e l v c w =
    let (x, there, at) = joined (λ x. with_action thread (action_in x)) es e c in
    action_below n thread x (one_below n es x h there, tt) e l v at w

runs_stores_below : (n thread : ℕ) (rs : List Run)
    → ((its : ℕ) (r : Run) → slice_get rs its ≡ Some r → AllBelow n r.outcome.walk.events)
    → StoresBelow n (events_from thread rs)
runs_stores_below n thread [] each e l v c w = absurd (no_member e c)
runs_stores_below n thread (r ∷ rs) each e l v c w =
    both_stores n (thread_events thread r.outcome.walk.events) (events_from (thread + 1) rs)
    (thread_stores_below n thread r.outcome.walk.events (each 0 r refl))
    (runs_stores_below n (thread + 1) rs (λ its q there. each (suc its) q there)) e l v c w

-- an order of all stores has each of them
stands_at : (y k : ℕ) (ys : List ℕ) (b : Bool) → nat_eq y k ≡ b
    → (has_store ys k ≡ true → Contains ys k) → (b || has_store ys k) ≡ true → Contains (y ∷ ys) k
stands_at y k ys true at later e =
    subst (λ (x : ℕ). Contains (y ∷ ys) x) (eqb-true y k at) (member_first y ys)
stands_at y k ys false at later e = member_later y ys k (later e)

stands : (order : List ℕ) (k : ℕ) → has_store order k ≡ true → Contains order k
stands [] k e = absurd cc
stands (y ∷ ys) k e = stands_at y k ys (nat_eq y k) refl (stands ys k) e

differs : (order : List ℕ) (k : ℕ) → has_store order k ≡ false → (z : ℕ) → Contains order z → k ≡ z
    → ⊥
differs [] k e z c same = no_member z c
differs (y ∷ ys) k e z c same =
    let p : (nat_eq y k ≡ false) × (has_store ys k ≡ false) = or_parts (nat_eq y k) (has_store ys k) e in
    elim (member_cases y ys z c) [
      | inl at ↦ let t : nat_eq y k ≡ true = eq-eqb y k (at ∙ sym same) in true_false (sym t ∙ p.0)
      | inr d ↦ differs ys k p.1 z d same
    ]
  where
    true_false : true ≡ false → ⊥
    true_false e = cc

no_more_stores : (order ss : List ℕ) → AreDistinct order
    → ((z : ℕ) → Contains order z → Contains ss z) → length order ≤ length ss
no_more_stores [] ss h there = omega arith
no_more_stores (x ∷ xs) ss h there =
    let c : Contains ss x = there x (member_first x xs) in
    let k : length xs ≤ length (without ss c.0) = no_more_stores xs (without ss c.0) h.1 (λ z d. still_there ss c.0 x z c.1 c.2 (λ e. differs xs x h.0 z d e) (there z (member_later x xs z d))) in
    omega (arith, k, one_fewer ss c.0 c.1)

all_stand : (order ss : List ℕ) (k : ℕ) → AreDistinct order
    → ((z : ℕ) → Contains order z → Contains ss z) → length order ≡ length ss → Contains ss k
    → Contains order k
all_stand order ss k distinct there many c = go (has_store order k) refl
  where
    go : (b : Bool) → has_store order k ≡ b → Contains order k
    go true e = stands order k e
    go false e =
        let le : length order ≤ length (without ss c.0) = no_more_stores order (without ss c.0) distinct (λ z d. still_there ss c.0 k z c.1 c.2 (λ same. differs order k e z d same) (there z d)) in
        absurd (omega (arith, le, many, one_fewer ss c.0 c.1))

-- the order of a location
record OrderAt (es : List Event) (coherence : List (List ℕ)) (k l : ℕ) : Type 0 where
  order : List ℕ
  found : slice_get coherence k ≡ Some order
  is : IsStoreOrder es l order

order_at : (es : List Event) (m : ℕ) (vs : List Value) (coherence : List (List ℕ)) (k : ℕ)
    → AllZip (IsStoreOrder es) (locations_from m vs) coherence → k < length vs
    → OrderAt es coherence k (m + k)
order_at es m [] coherence k h lt = absurd (omega (arith, lt))
order_at es m (v ∷ vs) [] k h lt = absurd h
order_at es m (v ∷ vs) (o ∷ os) zero h lt =
    let e : m ≡ m + 0 = omega arith in
    record { order = o; found = refl; is = subst (λ (l : ℕ). IsStoreOrder es l o) e h.0 }
order_at es m (v ∷ vs) (o ∷ os) (suc k) h lt =
    let rest : OrderAt es os k ((m + 1) + k) = order_at es (m + 1) vs os k h.1 (omega (arith, lt)) in
    let e : (m + 1) + k ≡ m + suc k = omega arith in
    record { order = rest.order; found = rest.found; is = subst (λ (l : ℕ). IsStoreOrder es l rest.order) e rest.is }

-- what an event that is a store does
record StoreOf (a : Action) : Type 0 where
  location : ℕ
  value : Value
  is : a ≡ Store location value

store_of : (e : Event) → is_store e ≡ true → StoreOf e.action
store_of e h = go e.action h
  where
    go : (a : Action) → is_store (record e { action = a }) ≡ true → StoreOf a
    go (Load l v) h = absurd cc
    go (Store l v) h = record { location = l; value = v; is = refl }
    go (Fence f) h = absurd cc

event_there : (es : List Event) (k : ℕ) (e : Event) → slice_get es k ≡ Some e → Contains es e
event_there es k e at =
    let lt : k < length es = slice_get_within es k e at in
    let same : get_or es k e ≡ e = event_is (sym (slice_get-get_or es k e lt) ∙ at) in
    (k, lt, same)
  where
    event_is : {d e : Event} → Some d ≡ Some e → d ≡ e
    event_is e = cc

pub covers : (t : Test) → CoversEachStore t
covers t p V x is domain executes store c =
    let found : Numbered is_store 0 es store = contained is_store es store c in
    let s : StoreOf found.item.action = store_of found.item found.passes in
    let at : store ≡ found.index = omega (arith, found.is) in
    let there : slice_get es store ≡ Some found.item = ap (λ (k : ℕ). slice_get es k) at ∙ found.there in
    let lt : s.location < length p.initial.items = all_below found.item s.location s.value (event_there es store found.item there) s.is in
    let o : OrderAt es x.coherence s.location (0 + s.location) = order_at es 0 p.initial.items x.coherence s.location executes.orders lt in
    let zeroth : 0 + s.location ≡ s.location = omega arith in
    let i : IsStoreOrder es s.location o.order = subst (λ (l : ℕ). IsStoreOrder es l o.order) zeroth o.is in
    let writes : is_store_to s.location found.item.action ≡ true = ap (λ (a : Action). is_store_to s.location a) s.is ∙ eq-eqb s.location s.location refl in
    let first : 0 + store ≡ store = omega arith in
    let own : Contains (stores_at es s.location) store = subst (λ (k : ℕ). Contains (stores_at es s.location) k) first (number_there (λ e. is_store_to s.location e.action) 0 es store found.item there writes) in
    record {
      location = s.location;
      value = s.value;
      stores = (found.item, there, s.is);
      order = o.order;
      coherence = o.found;
      there =
          all_stand o.order (stores_at es s.location) store i.once
          (λ z d. All-contains (Contains (stores_at es s.location)) o.order z i.stores d) i.each
          own;
    }
  where
    es : List Event
    es = events p.initial.items x.runs

    over : IsExecution p.initial.items (threads_of p) (Contains V) x
    over = over_any_domain t p V is domain x executes

    run_below : (its : ℕ) (r : Run) → slice_get x.runs its ≡ Some r
        → AllBelow (length p.initial.items) r.outcome.walk.events
    run_below its r there =
        let o : RunOf (Contains V) (threads_of p) r = thread_of_run (Contains V) (threads_of p) x.runs its r over.runs there in
        (run_kept (length p.initial.items) o.thread.lines (walk_at o.thread.first) r.values
        r.outcome o.is.1
        (λ i d lt. domain_below t p is (load_total p) (get_or r.values i d)
        ((domain.exact (get_or r.values i d)).0 (o.is.0 i d lt)))
        (begins_kept t p is o.thread o.there)).events

    all_below : StoresBelow (length p.initial.items) (events p.initial.items x.runs)
    all_below =
        both_stores (length p.initial.items) (initial_stores 0 p.initial.items)
        (events_from 0 x.runs)
        (initial_stores_below (length p.initial.items) 0 p.initial.items (omega arith))
        (runs_stores_below (length p.initial.items) 0 x.runs run_below)
