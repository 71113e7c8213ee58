-- The events by number and by name are the same, one by one, and the loads stand at the same
-- indexes.
use Rattle.std.proofs.Common.{ℕ, suc, ◌≡◌, ◌<◌, ◌+◌, Bool, true, false, ◌||◌, cond, List, [], ◌∷◌, ◌++◌, map, length, get_or, All, Contains, Option, Some, option_map, unwrap_or, slice_get, if◌then◌else◌, refl, sym, ap, ap₂, subst, ◌∙◌, arith, true≢false}
use Rattle.std.specs.List.{AllZip}
use Rattle.std.proofs.lemmas.List.{get_or_default}
use Rattle.std.proofs.lemmas.List.Concat.{flat_map-append}
use Rattle.std.proofs.lemmas.List.Elements.{All-head, All-tail}
use Rattle.text_values.specs.declared.test.Place.TheVariants as observables
use Rattle.text_values.specs.TestValue.{Content}
use Rattle.thread_runs.specs.declared.value.Value as numbered_value
use Rattle.thread_runs.specs.declared.value.Value.TheVariants as numbers
use Rattle.thread_runs.specs.declared.instruction.RunStep.{RunStep}
use Rattle.thread_runs.specs.declared.instruction.Event as run_events
use Rattle.thread_runs.specs.declared.instruction.Event.TheVariants as run_event
use Rattle.thread_runs.specs.Runs as by_number
use Rattle.store_orders.specs.declared.combination.Action.TheVariants as actions
use Rattle.store_orders.specs.declared.combination.Event as numbered_event
use Rattle.store_orders.specs.Events as numbered
use Rattle.store_orders.specs.Events.{action_in, with_action, thread_events, initial_stores}
use Rattle.candidates.specs.Executions as candidates
use Rattle.meaning.specs.Names.{Name, locations}
use Rattle.meaning.specs.Machine.{Value, Address, address_of, is_load, is_store, is_fence}
use Rattle.meaning.specs.Runs.{Instance, Run, initial_value}
use Rattle.meaning.specs.Dependencies.{is_event}
use Rattle.meaning.specs.Executions.{Event, Initial, Does, Execution, Loads, Stores, Fences, IsActionOf, instances_of, loads_from, loads_in}
use Rattle.meaning.proofs.Counting.{here}
use Rattle.meaning_executions.specs.Values.{IsSameValue, number, address, nothing}
use Rattle.meaning_executions.specs.Instructions as told
use Rattle.meaning_executions.specs.Instructions.{AreEventsOf}
use Rattle.meaning_executions.specs.Runs as runs
use Rattle.meaning_executions.specs.Runs.{AreSameSteps}
use Rattle.meaning_executions.specs.Events.{events_from, events_in, IsNumbered, IsSameAction, loads, stores, fences, IsSameEvent}
use Rattle.meaning_executions.specs.ThreadRuns as same
use Rattle.meaning_executions.specs.ThreadRuns.{AreSameThreadRuns}
use Rattle.meaning_executions.proofs.Lists.{member}
use Rattle.meaning_executions.proofs.Doing.{has_address, store_is, action_of_event}
use Rattle.meaning_executions.proofs.Taking.{IsSound}

-- the events by number, the same events by name, and the loads among these
pub data Alike (t : Content) (x : Execution)
    : List numbered_event.Event → List Event → List Event → Type 0 where
  none : Alike t x [] [] []
  load : {n : numbered_event.Event} {e : Event} {ns : List numbered_event.Event}
      {es ls : List Event} → IsSameEvent t x n e → numbered.is_load n ≡ true → Alike t x ns es ls
      → Alike t x (n ∷ ns) (e ∷ es) (e ∷ ls)
  other : {n : numbered_event.Event} {e : Event} {ns : List numbered_event.Event}
      {es ls : List Event} → IsSameEvent t x n e → numbered.is_load n ≡ false → Alike t x ns es ls
      → Alike t x (n ∷ ns) (e ∷ es) ls

both : {t : Content} {x : Execution} {ns ms : List numbered_event.Event} {es fs ls ks : List Event}
    → Alike t x ns es ls → Alike t x ms fs ks → Alike t x (ns ++ ms) (es ++ fs) (ls ++ ks)
both none rest = rest
both (load same is more) rest = load same is (both more rest)
both (other same is more) rest = other same is (both more rest)

pub pointwise : {t : Content} {x : Execution} {ns : List numbered_event.Event} {es ls : List Event}
    → Alike t x ns es ls → AllZip (IsSameEvent t x) ns es
pointwise none = tt
pointwise (load same is rest) = (same, pointwise rest)
pointwise (other same is rest) = (same, pointwise rest)

kept : {X Y : Type 0} (R : X → Y → Type 0) (b : Bool) → b ≡ true → (x : X) (y : Y) (xs : List X)
    (ys : List Y) → R x y → AllZip R xs ys → AllZip R (cond b (x ∷ xs) xs) (y ∷ ys)
kept R true is x y xs ys one rest = (one, rest)
kept R false is x y xs ys one rest = absurd (true≢false (sym is))

left : {X Y : Type 0} (R : X → Y → Type 0) (b : Bool) → b ≡ false → (x : X) (xs : List X)
    (ys : List Y) → AllZip R xs ys → AllZip R (cond b (x ∷ xs) xs) ys
left R true is x xs ys rest = absurd (true≢false is)
left R false is x xs ys rest = rest

-- the loads have the same numbers
pub loads_numbered : {t : Content} {x : Execution} {ns : List numbered_event.Event}
    {es ls : List Event} → Alike t x ns es ls → (all : List Event) (at : ℕ)
    → ((j k : ℕ) → j ≡ at + k → slice_get all j ≡ slice_get es k)
    → AllZip (IsNumbered all) (numbered.numbers numbered.is_load at ns) ls
loads_numbered none all at there = tt
loads_numbered (load {n = n} {e = e} {ns = ns} {ls = ls} same is rest) all at there =
    kept (IsNumbered all) (numbered.is_load n) is at e
    (numbered.numbers numbered.is_load (at + 1) ns) ls (there at 0 (omega arith))
    (loads_numbered rest all (at + 1) (λ j k h. there j (suc k) (omega (arith, h))))
loads_numbered (other {n = n} {ns = ns} {ls = ls} same is rest) all at there =
    left (IsNumbered all) (numbered.is_load n) is at
    (numbered.numbers numbered.is_load (at + 1) ns) ls
    (loads_numbered rest all (at + 1) (λ j k h. there j (suc k) (omega (arith, h))))

-- ---- One instruction

-- an address by number, where there is one by name
record Located (names : List Name) (a : numbered_value.Value) (w : Value) : Type 0 where
  location : ℕ
  below : location < length names
  is : a ≡ numbers.Address location
  name : w ≡ Address (get_or names location [])

located : (names : List Name) {a : numbered_value.Value} {w : Value} → IsSameValue names a w
    → (l : Name) → w ≡ Address l → Located names a w
located names (number n) l e = absurd cc
located names (address k lt) l e = record { location = k; below = lt; is = refl; name = refl }
located names nothing l e = absurd cc

left_false : (a b : Bool) → (a || b) ≡ false → a ≡ false
left_false true b e = absurd (true≢false e)
left_false false b e = refl

-- the events of an instruction: one that is a load, one that is not, or none
data Shown (t : Content) (x : Execution) (thread index : ℕ) (i : Instance)
    (ns : List numbered_event.Event) : Type 0 where
  loads_one : (n : numbered_event.Event) → ns ≡ n ∷ [] → is_event i.instruction ≡ true
      → is_load i.instruction ≡ true → numbered.is_load n ≡ true
      → IsSameEvent t x n (Does thread index) → Shown t x thread index i ns
  does_one : (n : numbered_event.Event) → ns ≡ n ∷ [] → is_event i.instruction ≡ true
      → is_load i.instruction ≡ false → numbered.is_load n ≡ false
      → IsSameEvent t x n (Does thread index) → Shown t x thread index i ns
  does_none : ns ≡ [] → is_event i.instruction ≡ false → is_load i.instruction ≡ false
      → Shown t x thread index i ns

module _ (t : Content) (x : Execution) where
  abbrev names : List Name
  names = locations t

  shown : (thread index : ℕ) (i : Instance) → IsSound i
      → slice_get (instances_of x thread) index ≡ Some i → {es : List run_events.Event}
      → AreEventsOf names i es → Shown t x thread index i (thread_events thread es)
  shown thread index i sound there (told.loads {a = a} {v = v} loading place value) =
      let found : _ = has_address i.instruction i.before sound
      (ap (λ (b : Bool). b || is_store i.instruction) loading) in
      let at : Located names a (address_of i.instruction i.before) =
      located names place found.0 found.1 in
      let l : Name = get_or names at.location [] in
      let has : IsActionOf i (Loads l i.loaded) = (loading, at.name, refl) in
      subst (λ (b : numbered_value.Value). Shown t x thread index i (thread_events thread (run_event.Load b v ∷ [])))
      (sym at.is)
      (loads_one (record { thread = Some thread; action = actions.Load at.location v }) refl
      (action_of_event i (Loads l i.loaded) has) loading refl
      (record {
        thread = refl;
        action = Loads l i.loaded;
        does = (i, there, has);
        same = loads at.location at.below value;
      }))
  shown thread index i sound there (told.stores {a = a} {v = v} {w = w} stored place value) =
      let is : _ = store_is i.instruction i.before w stored in
      let found : _ = has_address i.instruction i.before sound
      (ap₂ (λ (b c : Bool). b || c) is.1 is.0) in
      let at : Located names a (address_of i.instruction i.before) =
      located names place found.0 found.1 in
      let l : Name = get_or names at.location [] in
      let has : IsActionOf i (Stores l w) =
      (at.name, subst (λ (ws : List Value). Contains ws w) (sym stored) (here w [])) in
      subst (λ (b : numbered_value.Value). Shown t x thread index i (thread_events thread (run_event.Store b v ∷ [])))
      (sym at.is)
      (does_one (record { thread = Some thread; action = actions.Store at.location v }) refl
      (action_of_event i (Stores l w) has) is.1 refl
      (record {
        thread = refl;
        action = Stores l w;
        does = (i, there, has);
        same = stores at.location at.below value;
      }))
  shown thread index i sound there (told.fences {f = f} fence) =
      does_one (record { thread = Some thread; action = actions.Fence f }) refl
      (action_of_event i (Fences f) fence) (ap is_load fence) refl
      (record {
        thread = refl;
        action = Fences f;
        does = (i, there, fence);
        same = fences f;
      })
  shown thread index i sound there (told.nothing event) =
      does_none refl event
      (left_false (is_load i.instruction) (is_store i.instruction || is_fence i.instruction) event)

  with_load : (b c : Bool) → b ≡ true → c ≡ true → {ns ms : List numbered_event.Event}
      {n : numbered_event.Event} {e : Event} {es ls : List Event} → ns ≡ n ∷ []
      → IsSameEvent t x n e → numbered.is_load n ≡ true → Alike t x ms es ls
      → Alike t x (ns ++ ms) (if b then e ∷ es else es) (if c then e ∷ ls else ls)
  with_load true true event is {ms = ms} {e = e} {es = es} {ls = ls} alone one loading rest =
      subst (λ (ks : List numbered_event.Event). Alike t x (ks ++ ms) (e ∷ es) (e ∷ ls)) (sym alone)
      (load one loading rest)
  with_load true false event is alone one loading rest = absurd (true≢false (sym is))
  with_load false c event is alone one loading rest = absurd (true≢false (sym event))

  with_other : (b c : Bool) → b ≡ true → c ≡ false → {ns ms : List numbered_event.Event}
      {n : numbered_event.Event} {e : Event} {es ls : List Event} → ns ≡ n ∷ []
      → IsSameEvent t x n e → numbered.is_load n ≡ false → Alike t x ms es ls
      → Alike t x (ns ++ ms) (if b then e ∷ es else es) (if c then e ∷ ls else ls)
  with_other true false event is {ms = ms} {e = e} {es = es} {ls = ls} alone one loading rest =
      subst (λ (ks : List numbered_event.Event). Alike t x (ks ++ ms) (e ∷ es) ls) (sym alone)
      (other one loading rest)
  with_other true true event is alone one loading rest = absurd (true≢false is)
  with_other false c event is alone one loading rest = absurd (true≢false (sym event))

  with_none : (b c : Bool) → b ≡ false → c ≡ false → {ns ms : List numbered_event.Event}
      (e : Event) {es ls : List Event} → ns ≡ [] → Alike t x ms es ls
      → Alike t x (ns ++ ms) (if b then e ∷ es else es) (if c then e ∷ ls else ls)
  with_none false false event is {ms = ms} e {es = es} {ls = ls} alone rest =
      subst (λ (ks : List numbered_event.Event). Alike t x (ks ++ ms) es ls) (sym alone) rest
  with_none false true event is e alone rest = absurd (true≢false is)
  with_none true c event is e alone rest = absurd (true≢false event)

  one_more : (thread index : ℕ) (i : Instance) (is : List Instance)
      {ns ms : List numbered_event.Event} → Shown t x thread index i ns
      → Alike t x ms (events_from thread (suc index) is) (loads_from thread (suc index) is)
      → Alike t x (ns ++ ms) (events_from thread index (i ∷ is)) (loads_from thread index (i ∷ is))
  one_more thread index i is (loads_one n alone event is_one loading one) rest =
      with_load (is_event i.instruction) (is_load i.instruction) event is_one alone one loading rest
  one_more thread index i is (does_one n alone event is_one loading one) rest =
      with_other (is_event i.instruction) (is_load i.instruction) event is_one alone one loading rest
  one_more thread index i is (does_none alone event is_one) rest =
      with_none (is_event i.instruction) (is_load i.instruction) event is_one (Does thread index)
      alone rest

  -- ---- Threads

  thread_alike : (thread : ℕ) (labels : List Name) (index : ℕ) {steps : List RunStep}
      {events : List run_events.Event} {is : List Instance}
      → AreSameSteps names labels steps events is → All IsSound is
      → ((j k : ℕ) → j ≡ index + k → slice_get (instances_of x thread) j ≡ slice_get is k)
      → Alike t x (thread_events thread events) (events_from thread index is)
      (loads_from thread index is)
  thread_alike thread labels index runs.none sound there = none
  thread_alike thread labels index (runs.more {es = es} {events = events} {i = i} {instances = is} instruction loaded does rest) sound there =
      subst
      (λ (ns : List numbered_event.Event). Alike t x ns (events_from thread index (i ∷ is))
      (loads_from thread index (i ∷ is)))
      (sym (flat_map-append (λ e. with_action thread (action_in e)) es events))
      (one_more thread index i is
      (shown thread index i (All-head IsSound i is sound) (there index 0 (omega arith)) does)
      (thread_alike thread labels (suc index) rest (All-tail IsSound i is sound)
      (λ j k h. there j (suc k) (omega (arith, h)))))

  instances_are : (thread : ℕ) (q : Run) → slice_get x.runs thread ≡ Some q → (j k : ℕ) → j ≡ 0 + k
      → slice_get (instances_of x thread) j ≡ slice_get q.instances k
  instances_are thread q there j k e =
      ap (λ (o : Option Run). slice_get (unwrap_or (option_map (λ r. r.instances) o) []) j) there
      ∙ ap (λ (n : ℕ). slice_get q.instances n) (omega (arith, e))

  module _ (sound : (q : Run) → Contains x.runs q → All IsSound q.instances) where
    pub run_alike : (thread : ℕ) (r : by_number.Run) (q : Run) → same.IsSameThreadRun t thread r q
        → slice_get x.runs thread ≡ Some q
        → Alike t x (thread_events thread r.outcome.walk.events)
        (events_from thread 0 q.instances) (loads_from thread 0 q.instances)
    run_alike thread r q is there =
        thread_alike thread is.labels 0 is.same.steps (sound q (member x.runs thread q there))
        (instances_are thread q there)

    pub runs_alike : (thread : ℕ) {rs : List by_number.Run} {qs : List Run}
        → AreSameThreadRuns t thread rs qs
        → ((j k : ℕ) → j ≡ thread + k → slice_get x.runs j ≡ slice_get qs k)
        → Alike t x (candidates.events_from thread rs) (events_in thread qs) (loads_in thread qs)
    runs_alike thread same.none there = none
    runs_alike thread (same.more {r = r} {q = q} {rs = rs} {qs = qs} one rest) there =
        let next : suc thread ≡ thread + 1 = omega arith in
        both (run_alike thread r q one (there thread 0 (omega arith)))
        (subst
        (λ (n : ℕ). Alike t x (candidates.events_from n rs) (events_in (suc thread) qs)
        (loads_in (suc thread) qs))
        next
        (runs_alike (suc thread) rest (λ j k h. there j (suc k) (omega (arith, h)))))

  -- ---- Initial stores

  -- the location of that number has the name, and holds the value at the start
  pub record Starts (location : ℕ) (l : Name) (v : numbered_value.Value) : Type 0 where
    pub below : location < length names
    pub name : get_or names location [] ≡ l
    pub value : IsSameValue names v (initial_value t (observables.Location l))

  initial_alike : (location : ℕ) (vs : List numbered_value.Value) (ls : List Name)
      → length vs ≡ length ls
      → ((j k : ℕ) → j ≡ location + k → k < length ls
      → Starts j (get_or ls k []) (get_or vs k numbers.NoValue))
      → Alike t x (initial_stores location vs) (map Initial ls) []
  initial_alike location [] [] long starts = none
  initial_alike location [] (l ∷ ls) long starts = absurd (omega arith)
  initial_alike location (v ∷ vs) [] long starts = absurd (omega arith)
  initial_alike location (v ∷ vs) (l ∷ ls) long starts =
      let at : Starts location l v = starts location 0 (omega arith) (omega arith) in
      let value : Value = initial_value t (observables.Location l) in
      other
      (record {
        thread = refl;
        action = Stores l value;
        does = ((location, at.below, sym (get_or_default names location [] l at.below) ∙ at.name), refl);
        same =
            subst (λ (m : Name). IsSameAction names (actions.Store location v) (Stores m value))
            at.name (stores location at.below at.value);
      })
      refl
      (initial_alike (location + 1) vs ls (omega arith)
      (λ j k e lt. starts j (suc k) (omega (arith, e)) (omega (arith, lt))))

  pub all_alike : (initial : List numbered_value.Value) → length initial ≡ length names
      → ((k : ℕ) → k < length names → Starts k (get_or names k []) (get_or initial k numbers.NoValue))
      → Alike t x (initial_stores 0 initial) (map Initial names) []
  all_alike initial long starts =
      initial_alike 0 initial names long
      (λ j k e lt.
      let at : k ≡ j = omega (arith, e) in
      subst (λ (i : ℕ). Starts i (get_or names k []) (get_or initial k numbers.NoValue)) at
      (starts k lt))

  -- the events of an execution
  pub events_alike : (initial : List numbered_value.Value) (rs : List by_number.Run)
      → ((q : Run) → Contains x.runs q → All IsSound q.instances)
      → AreSameThreadRuns t 0 rs x.runs
      → Alike t x (initial_stores 0 initial) (map Initial names) []
      → Alike t x (candidates.events initial rs) (map Initial names ++ events_in 0 x.runs)
      (loads_in 0 x.runs)
  events_alike initial rs sound are first =
      both first
      (runs_alike sound 0 are (λ j k e. ap (λ (n : ℕ). slice_get x.runs n) (omega (arith, e))))
