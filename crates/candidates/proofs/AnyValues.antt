-- An execution whose loads take any values is one over the domain: by reads-from and need, without
-- a cycle, each value comes from the initial ones in as many rounds as there are loads.
use Rattle.std.proofs.Common.{Vec, vec_len, ℕ, zero, suc, ◌≡◌, ◌<◌, ◌≤◌, ◌+◌, ◌-◌, ◌⊎◌, true, List, [], ◌∷◌, ◌++◌, take, length, filter, get_or, Option, Some, None, slice_get, refl, ap, sym, subst, ◌∙◌, inl, inr, arith, append_assoc, append-nil, Contains}
use Rattle.std.specs.List.{AllZip, sum_by, count_by}
use Rattle.std.specs.declared.alloc.Global.{Global}
use Rattle.std.proofs.lemmas.Bool.{cases_lt}
use Rattle.std.proofs.lemmas.Option.{slice_get_cases, same_Some}
use Rattle.std.proofs.lemmas.Grind.{get_or_default_zero}
use Rattle.std.proofs.lemmas.List.{length-append}
use Rattle.std.proofs.lemmas.List.Sums.{sum_by_more, sum_by-take-le}
use Rattle.std.proofs.lemmas.List.Elements.{All-contains, Contains-get_or, filter-append}
use Rattle.std.proofs.lemmas.Slice.Zip.{AllZip-long}
use Rattle.bit_rows.specs.Pairs.{Union, Path}
use Rattle.thread_runs.specs.declared.value.Value.{Value}
use Rattle.thread_runs.specs.declared.value.Value.TheVariants.{Number, Address, NoValue}
use Rattle.thread_runs.specs.declared.instruction.Event as run
use Rattle.thread_runs.specs.declared.instruction.Event.TheVariants as does
use Rattle.thread_runs.specs.declared.instruction.Line.{Line}
use Rattle.thread_runs.specs.declared.instruction.Program.{Program}
use Rattle.thread_runs.specs.Machine.{is_load as loads_from}
use Rattle.thread_runs.specs.Runs.{Thread, Run, IsThreadRun, InDomain, StoresFreely, executed, loaded_at, walk_at}
use Rattle.thread_runs.specs.AllRuns.{thread_of, lines_at}
use Rattle.thread_runs.specs.ValueSet.{IsProperValue}
use Rattle.ppc_lowering.specs.Domain.{IsDomainAt, threads_from, threads_of, has_load, load_total}
use Rattle.taints.specs.Chains.{IsNeed, event_index}
use Rattle.dataflow.specs.Execution.{EdgePath}
use Rattle.dataflow.proofs.DomainLaw.{all_there, stored_freely}
use Rattle.candidates.proofs.Elements.{member_cases, member_later, member_first, no_member, behind_first, within_first}
use Rattle.candidates.proofs.LoadValues.{read_in, values_read, loads_few}
use Rattle.candidates.proofs.Needs.{event_of_run, needed_load, load_is}
use Rattle.run_combinations.proofs.Numbers.{number_there, as_many}
use Rattle.candidates.proofs.StepEvents.{in_run}
use Rattle.candidates.proofs.StepValues.{StoredAt, stored_at, loaded_there}
use Rattle.candidates.proofs.Whole.{AreLocated, run_located}
use Rattle.store_orders.specs.Events.{thread_events, with_action, action_in, initial_stores, is_load_action, is_load, ReadsFrom}
use Rattle.candidates.specs.Executions.{Execution, IsExecution, IsDependency, MayRead, loads, events, events_from}
use Rattle.store_orders.specs.declared.combination.Action.{Action}
use Rattle.store_orders.specs.declared.combination.Action.TheVariants.{Load, Store, Fence}
use Rattle.store_orders.specs.declared.combination.Event.{Event}

-- the events of a run, one by one
first_event : (t : ℕ) (e : run.Event) (es : List run.Event) (a : Action) → action_in e ≡ Some a
    → thread_events t (e ∷ es) ≡ record { thread = Some t; action = a } ∷ thread_events t es
first_event t e es a is = ap (λ (o : Option Action). with_action t o ++ thread_events t es) is

event_at : (t : ℕ) (es : List run.Event) → AreLocated es → (k : ℕ) (e : run.Event) (a : Action)
    → slice_get es k ≡ Some e → action_in e ≡ Some a
    → slice_get (thread_events t es) k ≡ Some (record { thread = Some t; action = a })
event_at t [] h k e a there is = absurd cc
event_at t (d ∷ es) h zero e a there is =
    let same : action_in d ≡ Some a = ap action_in (same_Some _ _ there) ∙ is in
    ap (λ (l : List Event). slice_get l 0) (first_event t d es a same)
event_at t (d ∷ es) h (suc k) e a there is =
    ap (λ (l : List Event). slice_get l (suc k)) (first_event t d es h.0.0 h.0.1)
    ∙ event_at t es h.1 k e a there is

record Raw (es : List run.Event) (k : ℕ) (a : Action) : Type 0 where
  event : run.Event
  there : slice_get es k ≡ Some event
  does : action_in event ≡ Some a

raw_at : (t : ℕ) (es : List run.Event) → AreLocated es → (k : ℕ) (e : Event)
    → slice_get (thread_events t es) k ≡ Some e → Raw es k e.action
raw_at t [] h k e there = absurd cc
raw_at t (d ∷ es) h zero e there =
    let same : record { thread = Some t; action = h.0.0 } ≡ e = same_Some _ _ (sym (ap (λ (l : List Event). slice_get l 0) (first_event t d es h.0.0 h.0.1)) ∙ there) in
    record { event = d; there = refl; does = h.0.1 ∙ ap (λ (x : Event). Some x.action) same }
raw_at t (d ∷ es) h (suc k) e there =
    let r : Raw es k e.action = raw_at t es h.1 k e (sym (ap (λ (l : List Event). slice_get l (suc k)) (first_event t d es h.0.0 h.0.1)) ∙ there) in
    record { event = r.event; there = r.there; does = r.does }

write_is : (e : run.Event) (l : ℕ) (v : Value) → action_in e ≡ Some (Store l v)
    → e ≡ does.Store (Address l) v
write_is (does.Store (Address m) w) l v h = stores (same_Some _ _ h)
  where
    stores : Store m w ≡ Store l v → does.Store (Address m) w ≡ does.Store (Address l) v
    stores e = cc
write_is (does.Store (Number m) w) l v h = absurd cc
write_is (does.Store NoValue w) l v h = absurd cc
write_is (does.Load (Address m) w) l v h = absurd cc
write_is (does.Load (Number m) w) l v h = absurd cc
write_is (does.Load NoValue w) l v h = absurd cc
write_is (does.Fence f) l v h = absurd cc

read_is : (e : run.Event) (l : ℕ) (v : Value) → action_in e ≡ Some (Load l v)
    → (a : Value) × (e ≡ does.Load a v)
read_is (does.Load (Address m) w) l v h =
    (Address m, ap (λ (x : Value). does.Load (Address m) x) (loads_value (same_Some _ _ h)))
  where
    loads_value : Load m w ≡ Load l v → w ≡ v
    loads_value e = cc
read_is (does.Load (Number m) w) l v h = absurd cc
read_is (does.Load NoValue w) l v h = absurd cc
read_is (does.Store (Address m) w) l v h = absurd cc
read_is (does.Store (Number m) w) l v h = absurd cc
read_is (does.Store NoValue w) l v h = absurd cc
read_is (does.Fence f) l v h = absurd cc

-- what a load reads is among the values read
value_read : (es : List run.Event) (k : ℕ) (a v : Value) → slice_get es k ≡ Some (does.Load a v)
    → Contains (read_in es) v
value_read [] k a v h = absurd cc
value_read (does.Load b w ∷ es) zero a v h =
    subst (λ (x : Value). Contains (w ∷ read_in es) x) (same (same_Some _ _ h))
    (member_first w (read_in es))
  where
    same : does.Load b w ≡ does.Load a v → w ≡ v
    same e = cc
value_read (does.Store b w ∷ es) zero a v h = absurd cc
value_read (does.Fence f ∷ es) zero a v h = absurd cc
value_read (does.Load b w ∷ es) (suc k) a v h =
    member_later w (read_in es) v (value_read es k a v h)
value_read (does.Store b w ∷ es) (suc k) a v h = value_read es k a v h
value_read (does.Fence f ∷ es) (suc k) a v h = value_read es k a v h

record ReadAt (es : List run.Event) (v : Value) : Type 0 where
  index : ℕ
  address : Value
  there : slice_get es index ≡ Some (does.Load address v)

read_at : (es : List run.Event) (v : Value) → Contains (read_in es) v → ReadAt es v
read_at [] v c = absurd (no_member v c)
read_at (does.Load a w ∷ es) v c = elim (member_cases w (read_in es) v c) [
  | inl e ↦ record { index = 0; address = a; there = ap (λ (x : Value). Some (does.Load a x)) e }
  | inr d ↦
      let r : ReadAt es v = read_at es v d in
      record { index = suc r.index; address = r.address; there = r.there }
]
read_at (does.Store a w ∷ es) v c =
    let r : ReadAt es v = read_at es v c in
    record { index = suc r.index; address = r.address; there = r.there }
read_at (does.Fence f ∷ es) v c =
    let r : ReadAt es v = read_at es v c in
    record { index = suc r.index; address = r.address; there = r.there }

loads_of_run : (t : ℕ) (es : List run.Event) → AreLocated es
    → length (filter is_load (thread_events t es)) ≡ length (read_in es)
loads_of_run t [] h = refl
loads_of_run t (does.Load (Address l) v ∷ es) h = ap (λ (n : ℕ). suc n) (loads_of_run t es h.1)
loads_of_run t (does.Load (Number n) v ∷ es) h = absurd (nothing h.0.1)
  where
    nothing : {a : Action} → None ≡ Some a → ⊥
    nothing e = cc
loads_of_run t (does.Load NoValue v ∷ es) h = absurd (nothing h.0.1)
  where
    nothing : {a : Action} → None ≡ Some a → ⊥
    nothing e = cc
loads_of_run t (does.Store (Address l) v ∷ es) h = loads_of_run t es h.1
loads_of_run t (does.Store (Number n) v ∷ es) h = loads_of_run t es h.1
loads_of_run t (does.Store NoValue v ∷ es) h = loads_of_run t es h.1
loads_of_run t (does.Fence f ∷ es) h = loads_of_run t es h.1

located_at : (es : List run.Event) → AreLocated es → (k : ℕ) (e : run.Event)
    → slice_get es k ≡ Some e → (a : Action) × (action_in e ≡ Some a)
located_at [] h k e there = absurd cc
located_at (d ∷ es) h zero e there = (h.0.0, sym (ap action_in (same_Some _ _ there)) ∙ h.0.1)
located_at (d ∷ es) h (suc k) e there = located_at es h.1 k e there

-- the value that an event reads
abbrev value_of : Action → Value
value_of (Load l v) = v
value_of (Store l v) = NoValue
value_of (Fence f) = NoValue

read_action : (a v : Value) (act : Action) → action_in (does.Load a v) ≡ Some act
    → (is_load_action act ≡ true) × (value_of act ≡ v)
read_action (Address l) v act h =
    let e : Load l v ≡ act = same_Some _ _ h in (sym (ap is_load_action e), sym (ap value_of e))
read_action (Number n) v act h = absurd cc
read_action NoValue v act h = absurd cc

-- where an event of the execution comes from: an initial store, or an event of a run
record OfRun (es : List Event) (thread : ℕ) (rs : List Run) (k : ℕ) (e : Event) : Type 0 where
  its : ℕ
  run : Run
  its_run : slice_get rs its ≡ Some run
  index : ℕ
  at : k ≡ length (es ++ events_from thread (take its rs)) + index
  there : slice_get (thread_events (thread + its) run.outcome.walk.events) index ≡ Some e

origin : (es : List Event) (thread : ℕ) (rs : List Run) (k : ℕ) (e : Event)
    → slice_get (es ++ events_from thread rs) k ≡ Some e
    → (slice_get es k ≡ Some e) ⊎ OfRun es thread rs k e
origin es thread [] k e h = inl (sym (ap (λ (l : List Event). slice_get l k) (append-nil es)) ∙ h)
origin es thread (r ∷ rs) k e h =
    go (origin (es ++ thread_events thread r.outcome.walk.events) (thread + 1) rs k e
    (ap (λ (l : List Event). slice_get l k) (append_assoc es
    (thread_events thread r.outcome.walk.events) (events_from (thread + 1) rs))
    ∙ h))
  where
    split : slice_get (es ++ (thread_events thread r.outcome.walk.events)) k ≡ Some e
        → (slice_get es k ≡ Some e) ⊎ OfRun es thread (r ∷ rs) k e
    split s = elim (cases_lt k (length es)) [
      | inl lt ↦ inl (sym (within_first es (thread_events thread r.outcome.walk.events) k lt) ∙ s)
      | inr ge ↦
          let z : k ≡ length es + (k - length es) = omega (arith, ge) in
          let y : thread + 0 ≡ thread = omega arith in
          inr (record {
            its = 0;
            run = r;
            its_run = refl;
            index = k - length es;
            at = z ∙ ap (λ (l : List Event). length l + (k - length es)) (sym (append-nil es));
            there =
                ap (λ (t : ℕ). slice_get (thread_events t r.outcome.walk.events) (k - length es)) y
                ∙ sym (behind_first es (thread_events thread r.outcome.walk.events) (k - length es))
                ∙ ap (λ (j : ℕ). slice_get (es ++ (thread_events thread r.outcome.walk.events)) j)
                (sym z) ∙ s;
          })
    ]

    go : (slice_get (es ++ (thread_events thread r.outcome.walk.events)) k ≡ Some e)
        ⊎ OfRun (es ++ (thread_events thread r.outcome.walk.events)) (thread + 1) rs k e
        → (slice_get es k ≡ Some e) ⊎ OfRun es thread (r ∷ rs) k e
    go (inl s) = split s
    go (inr o) =
        let y : thread + suc o.its ≡ thread + 1 + o.its = omega arith in
        inr (record {
          its = suc o.its;
          run = o.run;
          its_run = o.its_run;
          index = o.index;
          at =
              o.at
              ∙ ap (λ (l : List Event). length l + o.index) (append_assoc es
              (thread_events thread r.outcome.walk.events)
              (events_from (thread + 1) (take o.its rs)));
          there =
              ap (λ (t : ℕ). slice_get (thread_events t o.run.outcome.walk.events) o.index) y
              ∙ o.there;
        })

initial_value : (at : ℕ) (vs : List Value) (k : ℕ) (e : Event) (l : ℕ) (v : Value)
    → slice_get (initial_stores at vs) k ≡ Some e → e.action ≡ Store l v → Contains vs v
initial_value at [] k e l v there is = absurd cc
initial_value at (w ∷ vs) zero e l v there is =
    subst (λ (x : Value). Contains (w ∷ vs) x)
    (same (ap (λ (x : Event). x.action) (same_Some _ _ there) ∙ is)) (member_first w vs)
  where
    same : Store at w ≡ Store l v → w ≡ v
    same e = cc
initial_value at (w ∷ vs) (suc k) e l v there is =
    member_later w vs v (initial_value (at + 1) vs k e l v there is)

no_initial_load : (at : ℕ) (vs : List Value) (k : ℕ) (e : Event) (l : ℕ) (v : Value)
    → slice_get (initial_stores at vs) k ≡ Some e → e.action ≡ Load l v → ⊥
no_initial_load at [] k e l v there is = absurd cc
no_initial_load at (w ∷ vs) zero e l v there is =
    store_load (ap (λ (x : Event). x.action) (same_Some _ _ there) ∙ is)
  where
    store_load : Store at w ≡ Load l v → ⊥
    store_load e = cc
no_initial_load at (w ∷ vs) (suc k) e l v there is = no_initial_load (at + 1) vs k e l v there is

-- each run is one of a thread
pub record RunOf (P : Value → Type 0) (threads : List Thread) (r : Run) : Type 0 where
  pub thread : Thread
  pub there : Contains threads thread
  pub is : IsThreadRun thread P r

pub thread_of_run : (P : Value → Type 0) (threads : List Thread) (rs : List Run) (its : ℕ) (r : Run)
    → AllZip (λ t r. IsThreadRun t P r) threads rs → slice_get rs its ≡ Some r → RunOf P threads r
thread_of_run P [] [] its r h there = absurd cc
thread_of_run P [] (q ∷ rs) its r h there = absurd h
thread_of_run P (t ∷ threads) [] its r h there = absurd h
thread_of_run P (t ∷ threads) (q ∷ rs) zero r h there =
    record {
      thread = t;
      there = member_first t threads;
      is = subst (λ (s : Run). IsThreadRun t P s) (same_Some _ _ there) h.0;
    }
thread_of_run P (t ∷ threads) (q ∷ rs) (suc k) r h there =
    let o : RunOf P threads r = thread_of_run P threads rs k r h.1 there in record { thread = o.thread; there = member_later t threads o.thread o.there; is = o.is }

located : (P : Value → Type 0) (t : Thread) (r : Run) → IsThreadRun t P r
    → AreLocated r.outcome.walk.events
located P t r is = run_located t.lines (walk_at t.first) r.values r.outcome is.1 tt

zip_at : {X Y : Type 0} (R : X → Y → Type 0) (xs : List X) (ys : List Y) (k : ℕ) (d : X) (c : Y)
    → AllZip R xs ys → k < length xs → R (get_or xs k d) (get_or ys k c)
zip_at R [] [] k d c h lt = absurd (omega (arith, lt))
zip_at R [] (y ∷ ys) k d c h lt = absurd h
zip_at R (x ∷ xs) [] k d c h lt = absurd h
zip_at R (x ∷ xs) (y ∷ ys) zero d c h lt = h.0
zip_at R (x ∷ xs) (y ∷ ys) (suc k) d c h lt = zip_at R xs ys k d c h.1 (omega (arith, lt))

in_every : (initial : List Value) (threads : List Thread) (k : ℕ) (v : Value) → Contains initial v
    → InDomain initial threads k v
in_every initial threads zero v c = c
in_every initial threads (suc k) v c = inl (in_every initial threads k v c)

abbrev value_at : Option Event → Value
value_at None = NoValue
value_at (Some e) = value_of e.action

module _ (initial : List Value) (threads : List Thread) (some : Value)
    (begins : Contains initial some) (x : Execution) (is : IsExecution initial threads IsProperValue x)
  where
    abbrev es : List Event
    es = events initial x.runs

    abbrev count : ℕ
    count = length (loads es)

    abbrev load : ℕ → ℕ
    load m = get_or (loads es) m 0

    abbrev store : ℕ → ℕ
    store m = get_or x.reads_from m 0

    abbrev value : ℕ → Value
    value m = value_at (slice_get es (load m))

    read : (l : ℕ) → l < count → MayRead es (load l) (store l)
    read l lt = zip_at (MayRead es) (loads es) x.reads_from l 0 0 is.reads lt

    value_is : (l : ℕ) (lt : l < count) → value l ≡ (read l lt).1
    value_is l lt =
        let m : MayRead es (load l) (store l) = read l lt in ap value_at m.2.1 ∙ ap value_of m.2.2

    -- the second load reads from a store that needs the first
    abbrev Before : ℕ → ℕ → Type 0
    Before m l = (l < count) × IsDependency IsNeed initial x.runs (load m) (store l)

    reads_from : (l : ℕ) → l < count → ReadsFrom (loads es) x.reads_from (store l) (load l)
    reads_from l lt =
        let long : length x.reads_from ≡ length (loads es) =
        AllZip-long (MayRead es) (loads es) x.reads_from is.reads in
        (l, omega (arith, lt, long), lt, refl, refl)

    longer : (a : ℕ) (through : List ℕ) (b : ℕ) → EdgePath Before a through b
        → (nodes : List ℕ)
        × Path (Union (IsDependency IsNeed initial x.runs) (ReadsFrom (loads es) x.reads_from))
        (load a) nodes (load b)
    longer a [] b w = (store b ∷ [], (inl w.1, inr (reads_from b w.0)))
    longer a (c ∷ cs) b w =
        let r : (nodes : List ℕ) × Path (Union (IsDependency IsNeed initial x.runs) (ReadsFrom (loads es) x.reads_from)) (load c) nodes (load b) = longer c cs b w.1 in
        (store c ∷ load c ∷ r.0, (inl w.0.1, (inr (reads_from c w.0.0), r.1)))

    -- no load reads NoValue
    proper : (l : ℕ) (lt : l < count) → (read l lt).1 ≡ NoValue → ⊥
    proper l lt none =
        let m : MayRead es (load l) (store l) = read l lt in
        elim (origin (initial_stores 0 initial) 0 x.runs (load l) m.2.0 m.2.1) [
          | inl i ↦ no_initial_load 0 initial (load l) m.2.0 m.0 m.1 i m.2.2
          | inr o ↦
              let t : RunOf IsProperValue threads o.run = thread_of_run IsProperValue threads x.runs o.its o.run is.runs o.its_run in
              let r : Raw o.run.outcome.walk.events o.index m.2.0.action = raw_at (0 + o.its) o.run.outcome.walk.events (located IsProperValue t.thread o.run t.is) o.index m.2.0 o.there in
              let a : (a : Value) × (r.event ≡ does.Load a m.1) = read_is r.event m.0 m.1 (r.does ∙ ap (λ (y : Action). Some y) m.2.2) in
              let c : Contains (read_in o.run.outcome.walk.events) m.1 = value_read o.run.outcome.walk.events o.index a.0 m.1 (r.there ∙ ap (λ (y : run.Event). Some y) a.1) in
              All-contains IsProperValue o.run.values m.1 t.is.0
              (subst (λ (vs : List Value). Contains vs m.1)
              (values_read t.thread.lines t.thread.first o.run.values o.run.outcome t.is.1) c)
              none
        ]

    -- the load at a step of a run reads what the step loaded
    step_value : (its : ℕ) (r : Run) → slice_get x.runs its ≡ Some r → (i : ℕ)
        → loads_from (executed r.outcome.walk.steps i) ≡ true
        → value_at (slice_get es (length (events initial (take its x.runs))
        + event_index (executed r.outcome.walk.steps) i))
        ≡ loaded_at r.outcome.walk.steps i
    step_value its r there i load =
        let t : RunOf IsProperValue threads r = thread_of_run IsProperValue threads x.runs its r is.runs there in
        let h : AreLocated r.outcome.walk.events = located IsProperValue t.thread r t.is in
        let lt : i < length r.outcome.walk.steps = in_run r.outcome.walk.steps i (load_is (executed r.outcome.walk.steps i) load) in
        let own : (a : Value) × (slice_get r.outcome.walk.events (event_index (executed r.outcome.walk.steps) i) ≡ Some (does.Load a (loaded_at r.outcome.walk.steps i))) = loaded_there t.thread.lines t.thread.first r.values r.outcome t.is.1 i lt load in
        let a : (a : Action) × (action_in (does.Load own.0 (loaded_at r.outcome.walk.steps i)) ≡ Some a) = located_at r.outcome.walk.events h (event_index (executed r.outcome.walk.steps) i) (does.Load own.0 (loaded_at r.outcome.walk.steps i)) own.1 in
        ap value_at (event_of_run (initial_stores 0 initial) 0 x.runs its
        (event_index (executed r.outcome.walk.steps) i) r
        (record { thread = Some (0 + its); action = a.0 }) there
        (event_at (0 + its) r.outcome.walk.events h (event_index (executed r.outcome.walk.steps) i)
        (does.Load own.0 (loaded_at r.outcome.walk.steps i)) a.0 own.1 a.1))
        ∙ (read_action own.0 (loaded_at r.outcome.walk.steps i) a.0 a.1).1

    -- a number of a load is that of one of the loads
    record Nth (k : ℕ) : Type 0 where
      nth : ℕ
      within : nth < count
      at : load nth ≡ k

    nth_load : (k : ℕ) → Contains (loads es) k → Nth k
    nth_load k c =
        record { nth = c.0; within = c.1; at = sym (get_or_default_zero (loads es) c.0 k c.1) ∙ c.2 }

    from_run : (k l : ℕ) (lt : l < count)
        → ((m : ℕ) → m < count → Before m l → InDomain initial threads k (value m))
        → OfRun (initial_stores 0 initial) 0 x.runs (store l) (read l lt).3.0
        → InDomain initial threads (suc k) (read l lt).1
    from_run k l lt before o =
        inr (
          subst (λ (v : Value). StoresFreely threads (InDomain initial threads k) v)
              (sym s.stores.2)
              (stored_freely threads t.thread o.run.values o.run.outcome
              (InDomain initial threads k)
              some s.step s.stores.0 t.there t.is.1 s.stores.1
              (in_every initial threads k some begins) needed),
          proper l lt,
        )
      where
        m : MayRead es (load l) (store l)
        m = read l lt

        t : RunOf IsProperValue threads o.run
        t = thread_of_run IsProperValue threads x.runs o.its o.run is.runs o.its_run

        r : Raw o.run.outcome.walk.events o.index (read l lt).3.0.action
        r =
            raw_at (0 + o.its) o.run.outcome.walk.events (located IsProperValue t.thread o.run t.is) o.index
            (read l lt).3.0 o.there

        s : StoredAt t.thread.first o.run.outcome o.index (read l lt).1
        s =
            stored_at t.thread.lines t.thread.first o.run.values o.run.outcome t.is.1 o.index
            (Address (read l lt).0) (read l lt).1 (r.there
            ∙ ap (λ (y : run.Event). Some y) (write_is r.event (read l lt).0 (read l lt).1
            (r.does ∙ ap (λ (y : Action). Some y) (read l lt).3.2)))

        dependency : (i : ℕ) → IsNeed (executed o.run.outcome.walk.steps) i s.step
            → IsDependency IsNeed initial x.runs
            (length (events initial (take o.its x.runs))
            + event_index (executed o.run.outcome.walk.steps) i)
            (store l)
        dependency i need = record {
          thread = o.its;
          run = o.run;
          its_run = o.its_run;
          first = i;
          second = s.step;
          related = need;
          from = refl;
          to = o.at ∙ ap (λ (n : ℕ). length (events initial (take o.its x.runs)) + n) (sym s.place);
        }

        needed : (i : ℕ) → IsNeed (executed o.run.outcome.walk.steps) i s.step
            → InDomain initial threads k (loaded_at o.run.outcome.walk.steps i)
        needed i need =
            let at : ℕ = length (events initial (take o.its x.runs)) + event_index (executed o.run.outcome.walk.steps) i in
            let n : Nth at = nth_load at (needed_load IsProperValue threads initial x.runs is.runs at (store l) (dependency i need)) in
            subst (λ (v : Value). InDomain initial threads k v) (ap
            (λ (j : ℕ). value_at (slice_get es j)) n.at
            ∙ step_value o.its o.run o.its_run i need.0)
            (before n.nth n.within (
              lt,
              subst (λ (j : ℕ). IsDependency IsNeed initial x.runs j (store l)) (sym n.at)
                  (dependency i need),
            ))

    round : (k l : ℕ) → l < count
        → ((m : ℕ) → m < count → Before m l → InDomain initial threads k (value m))
        → InDomain initial threads (suc k) (value l)
    round k l lt before =
        let m : MayRead es (load l) (store l) = read l lt in
        subst (λ (v : Value). InDomain initial threads (suc k) v) (sym (value_is l lt)) (elim
        (origin (initial_stores 0 initial) 0 x.runs (store l) m.3.0 m.3.1) [
          | inl i ↦ inl (in_every initial threads k m.1
              (initial_value 0 initial (store l) m.3.0 m.0 m.1 i m.3.2))
          | inr o ↦ from_run k l lt before o
        ])

    pub each_in : (l : ℕ) → l < count → InDomain initial threads count (value l)
    each_in =
        all_there count Before (λ k l. InDomain initial threads k (value l))
        (λ l through w. is.acyclic (load l) (longer l through l w)) round

    -- so each value of a run is in the domain
    pub value_in : (its : ℕ) (r : Run) → slice_get x.runs its ≡ Some r → (v : Value)
        → Contains r.values v → InDomain initial threads count v
    value_in its r there v c =
        let t : RunOf IsProperValue threads r = thread_of_run IsProperValue threads x.runs its r is.runs there in
        let h : AreLocated r.outcome.walk.events = located IsProperValue t.thread r t.is in
        let q : ReadAt r.outcome.walk.events v = read_at r.outcome.walk.events v (subst (λ (vs : List Value). Contains vs v) (sym (values_read t.thread.lines t.thread.first r.values r.outcome t.is.1)) c) in
        let a : (a : Action) × (action_in (does.Load q.address v) ≡ Some a) = located_at r.outcome.walk.events h q.index (does.Load q.address v) q.there in
        let e : Event = record { thread = Some (0 + its); action = a.0 } in
        let at : ℕ = length (events initial (take its x.runs)) + q.index in
        let stands : slice_get es at ≡ Some e = event_of_run (initial_stores 0 initial) 0 x.runs its q.index r e there (event_at (0 + its) r.outcome.walk.events h q.index (does.Load q.address v) a.0 q.there a.1) in
        let z : 0 + at ≡ at = omega arith in
        let n : Nth at = nth_load at (subst (λ (k : ℕ). Contains (loads es) k) z (number_there is_load 0 es at e stands (read_action q.address v a.0 a.1).0)) in
        subst (λ (w : Value). InDomain initial threads count w)
        (ap (λ (k : ℕ). value_at (slice_get es k)) n.at ∙ ap value_at stands
        ∙ (read_action q.address v a.0 a.1).1)
        (each_in n.nth n.within)

-- an execution has at most as many loads as the text
abbrev text_loads : List Thread → ℕ
text_loads [] = 0
text_loads (t ∷ ts) = count_by has_load t.lines + text_loads ts

text_push : (ts : List Thread) (t : Thread)
    → text_loads (ts ++ t ∷ []) ≡ text_loads ts + count_by has_load t.lines
text_push [] t = omega arith
text_push (u ∷ ts) t = omega (arith, text_push ts t)

runs_few : (P : Value → Type 0) (threads : List Thread) (rs : List Run) (t : ℕ)
    → AllZip (λ t r. IsThreadRun t P r) threads rs
    → length (filter is_load (events_from t rs)) ≤ text_loads threads
runs_few P [] [] t h = omega arith
runs_few P [] (r ∷ rs) t h = absurd h
runs_few P (u ∷ threads) [] t h = absurd h
runs_few P (u ∷ threads) (r ∷ rs) t h =
    let rest : length (filter is_load (events_from (t + 1) rs)) ≤ text_loads threads = runs_few P threads rs (t + 1) h.1 in
    let a : length (filter is_load (thread_events t r.outcome.walk.events ++ events_from (t + 1) rs)) ≡ length (filter is_load (thread_events t r.outcome.walk.events) ++ filter is_load (events_from (t + 1) rs)) = ap (λ (l : List Event). length l) (filter-append is_load (thread_events t r.outcome.walk.events) (events_from (t + 1) rs)) in
    let b : length (filter is_load (thread_events t r.outcome.walk.events)) ≡ length (read_in r.outcome.walk.events) = loads_of_run t r.outcome.walk.events (located P u r h.0) in
    let c : length (read_in r.outcome.walk.events) ≡ length r.values = ap (λ (l : List Value). length l) (values_read u.lines u.first r.values r.outcome h.0.1) in
    let d : length r.values ≤ count_by has_load u.lines = loads_few u.lines u.first r.values r.outcome h.0.1 in
    omega (
      arith,
      rest,
      a,
      b,
      c,
      d,
      length-append (filter is_load (thread_events t r.outcome.walk.events))
          (filter is_load (events_from (t + 1) rs)),
    )

no_loads : (at : ℕ) (vs : List Value) → filter is_load (initial_stores at vs) ≡ []
no_loads at [] = refl
no_loads at (v ∷ vs) = no_loads (at + 1) vs

loads_of_text : (P : Value → Type 0) (initial : List Value) (threads : List Thread) (rs : List Run)
    → AllZip (λ t r. IsThreadRun t P r) threads rs
    → length (loads (events initial rs)) ≤ text_loads threads
loads_of_text P initial threads rs h =
    let a : length (filter is_load (events initial rs)) ≡ length (loads (events initial rs)) = as_many is_load 0 (events initial rs) in
    let b : filter is_load (events initial rs) ≡ filter is_load (events_from 0 rs) = filter-append is_load (initial_stores 0 initial) (events_from 0 rs) ∙ ap (λ (l : List Event). l ++ filter is_load (events_from 0 rs)) (no_loads 0 initial) in
    let c : length (filter is_load (events initial rs)) ≡ length (filter is_load (events_from 0 rs)) = ap (λ (l : List Event). length l) b in
    let d : length (filter is_load (events_from 0 rs)) ≤ text_loads threads = runs_few P threads rs 0 h in
    omega (arith, a, c, d)

abbrev in_lines : Vec Line Global → ℕ
in_lines lines = count_by has_load lines.items

sums : (p : Program) (n : ℕ) → n ≤ length p.threads.items
    → text_loads (threads_from p n) ≤ sum_by in_lines (take n p.threads.items)
sums p zero le = omega arith
sums p (suc n) le = elim (slice_get_cases p.threads.items n).1 [
  | inl found ↦
      let (lines, lt, there, at) = found in
      let own : count_by has_load (thread_of p n).lines ≡ in_lines lines = ap (λ (o : Option (Vec Line Global)). count_by has_load (lines_at o)) there in
      let z : sum_by in_lines (take (suc n) p.threads.items) ≡ sum_by in_lines (take (n + 1) p.threads.items) = let y : suc n ≡ n + 1 = omega arith in ap (λ (k : ℕ). sum_by in_lines (take k p.threads.items)) y in
      omega (
        arith,
        z,
        sums p n (omega (arith, le)),
        text_push (threads_from p n) (thread_of p n),
        own,
        sum_by_more in_lines p.threads.items n lines lt,
        ap in_lines at,
      )
  | inr past ↦ absurd (omega (arith, past.0, le))
]

text_few : (p : Program) → text_loads (threads_of p) ≤ load_total p
text_few p =
    let long : vec_len p.threads ≡ length p.threads.items = p.threads.ok.0 in
    let a : text_loads (threads_from p (vec_len p.threads)) ≤ sum_by in_lines (take (vec_len p.threads) p.threads.items) = sums p (vec_len p.threads) (omega (arith, long)) in
    omega (arith, a, sum_by-take-le in_lines p.threads.items (vec_len p.threads))

later : (initial : List Value) (threads : List Thread) (v : Value) (k more : ℕ)
    → InDomain initial threads k v → InDomain initial threads (more + k) v
later initial threads v k zero h =
    let z : k ≡ 0 + k = omega arith in subst (λ (n : ℕ). InDomain initial threads n v) z h
later initial threads v k (suc more) h =
    let z : suc (more + k) ≡ suc more + k = omega arith in
    subst (λ (n : ℕ). InDomain initial threads n v) z (inl (later initial threads v k more h))

pub zip_as : {X Y : Type 0} (R S : X → Y → Type 0) (xs : List X) (ys : List Y)
    → ((k : ℕ) (x : X) (y : Y) → slice_get ys k ≡ Some y → R x y → S x y) → AllZip R xs ys
    → AllZip S xs ys
zip_as R S [] [] each h = tt
zip_as R S [] (y ∷ ys) each h = absurd h
zip_as R S (x ∷ xs) [] each h = absurd h
zip_as R S (x ∷ xs) (y ∷ ys) each h =
    (each 0 x y refl h.0, zip_as R S xs ys (λ k u w e r. each (suc k) u w e r) h.1)

-- the law
pub over_domain : (p : Program) (V : List Value) (some : Value) → IsDomainAt p (load_total p) V
    → Contains p.initial.items some → (x : Execution)
    → IsExecution p.initial.items (threads_of p) IsProperValue x
    → IsExecution p.initial.items (threads_of p) (Contains V) x
over_domain p V some d begins x is = record {
  runs =
      zip_as (λ t r. IsThreadRun t IsProperValue r) (λ t r. IsThreadRun t (Contains V) r) (threads_of p) x.runs
      (λ its t r there h. (
        (λ k v lt. in_values its r there (get_or r.values k v)
            (Contains-get_or r.values k v lt)),
        h.1,
      )) is.runs;
  reads = is.reads;
  orders = is.orders;
  acyclic = is.acyclic;
}
  where
    few : length (loads (events p.initial.items x.runs)) ≤ load_total p
    few =
        omega (arith, loads_of_text IsProperValue p.initial.items (threads_of p) x.runs is.runs, text_few p)

    in_values : (its : ℕ) (r : Run) → slice_get x.runs its ≡ Some r → (v : Value)
        → Contains r.values v → Contains V v
    in_values its r there v c =
        let n : ℕ = length (loads (events p.initial.items x.runs)) in
        let z : (load_total p - n) + n ≡ load_total p = omega (arith, few) in
        (d.exact v).1 (subst (λ (k : ℕ). InDomain p.initial.items (threads_of p) k v) z
        (later p.initial.items (threads_of p) v n (load_total p - n)
        (value_in p.initial.items (threads_of p) some begins x is its r there v c)))
