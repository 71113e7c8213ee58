-- The rounds of the domain give the same values by numbers as by names.
use Rattle.std.proofs.Common.{ℕ, zero, suc, ◌≡◌, ◌<◌, inl, inr, Bool, true, false, IsTrue, List, [], ◌∷◌, ◌++◌, All, Contains, Option, Some, None, length, get_or, refl, sym, ap, subst, ◌∙◌, arith, true≢false, vec_len}
use Rattle.std.proofs.lemmas.Bool.{cases_lt}
use Rattle.std.proofs.lemmas.Option.{same_Some}
use Rattle.std.proofs.lemmas.List.{get_or_default, length-map}
use Rattle.std.proofs.lemmas.List.Elements.{All-nil, All-cons, All-head, All-tail, Contains-get_or, Contains-push, Contains-push_cases, Contains-append_left, Contains-append_right, Contains-append_cases}
use Rattle.text_values.specs.declared.test.Test.{Test}
use Rattle.text_values.specs.declared.test.Place.TheVariants as places
use Rattle.text_values.specs.declared.instruction.Instruction as text
use Rattle.text_values.specs.declared.instruction.Instruction.TheVariants as does
use Rattle.text_values.specs.TestValue.{content_of, thread_steps}
use Rattle.thread_runs.specs.declared.value.Value as numbered_value
use Rattle.thread_runs.specs.declared.value.Value.TheVariants as numbers
use Rattle.thread_runs.specs.declared.instruction.Program.{Program}
use Rattle.thread_runs.specs.declared.instruction.RunStep.{RunStep}
use Rattle.thread_runs.specs.declared.instruction.Event as numbered_event
use Rattle.thread_runs.specs.declared.instruction.Event.TheVariants.{Load, Store, Fence}
use Rattle.thread_runs.specs.Runs as by_number
use Rattle.thread_runs.specs.Runs.{Thread, RunOutcome}
use Rattle.thread_runs.specs.AllRuns.{thread_of}
use Rattle.ppc_lowering.specs.Domain.{threads_from, threads_of, InDomainAt}
use Rattle.ppc_lowering.specs.Lowering.{AreInitial, IsProgram}
use Rattle.meaning.specs.Names.{Name, locations}
use Rattle.meaning.specs.Machine.{Value, NoValue, State, is_load, stored_values}
use Rattle.meaning.specs.Runs.{Instance, Run, initial_value}
use Rattle.meaning.specs.Domain.{InRound, IsStoredFreely}
use Rattle.meaning.specs.Dependencies.{is_event}
use Rattle.meaning.proofs.Counting.{here, head_or_tail, behind}
use Rattle.meaning_executions.specs.Values.{IsSameValue, number, address, nothing, AreSameValues, none, more, AreSameSets}
use Rattle.meaning_executions.specs.Instructions as told
use Rattle.meaning_executions.specs.Instructions.{AreEventsOf}
use Rattle.meaning_executions.specs.Runs as runs
use Rattle.meaning_executions.specs.Runs.{AreSameSteps, IsSameRun, IsSameOutcome}
use Rattle.meaning_executions.proofs.Located.{numbered_are}
use Rattle.meaning_executions.proofs.Starts.{starts_alike, runs_alike}

-- ---- Threads

has_thread : (p : Program) (n j : ℕ) → j < n → Contains (threads_from p n) (thread_of p j)
has_thread p zero j lt = absurd (omega arith)
has_thread p (suc n) j lt = elim (cases_lt j n) [
  | inl less ↦
      Contains-append_left (threads_from p n) (thread_of p n ∷ []) (thread_of p j)
      (has_thread p n j less)
  | inr le ↦
      let same : n ≡ j = omega arith in
      subst (λ (k : ℕ). Contains (threads_from p n ++ thread_of p n ∷ []) (thread_of p k)) same
      (Contains-push (threads_from p n) (thread_of p n))
]

which_thread : (p : Program) (n : ℕ) (t : Thread) → Contains (threads_from p n) t
    → (j : ℕ) × (j < n) × (thread_of p j ≡ t)
which_thread p zero t h = absurd (let lt = h.1 in omega arith)
which_thread p (suc n) t h = elim (Contains-push_cases (threads_from p n) (thread_of p n) t h) [
  | inl there ↦ let (j, lt, e) = which_thread p n t there in (j, (omega arith), e)
  | inr e ↦ (n, (omega arith), e)
]

-- ---- Outcomes

none_is : {X : Type 0} {x : X} → None ≡ Some x → ⊥
none_is e = cc

pub run_by_name : (names labels : List Name) {o : Option RunOutcome} {r : Option Run}
    → IsSameOutcome names labels o r → (f : RunOutcome) → o ≡ Some f
    → (q : Run) × (r ≡ Some q) × IsSameRun names labels f q
run_by_name names labels runs.neither f e = absurd (none_is e)
run_by_name names labels (runs.both {o = o} {r = r} same) f e =
    (r, refl, subst (λ (g : RunOutcome). IsSameRun names labels g r) (same_Some _ _ e) same)

pub run_by_number : (names labels : List Name) {o : Option RunOutcome} {r : Option Run}
    → IsSameOutcome names labels o r → (q : Run) → r ≡ Some q
    → (f : RunOutcome) × (o ≡ Some f) × IsSameRun names labels f q
run_by_number names labels runs.neither q e = absurd (none_is e)
run_by_number names labels (runs.both {o = o} {r = r} same) q e =
    (o, refl, subst (λ (g : Run). IsSameRun names labels o g) (same_Some _ _ e) same)

-- ---- What is stored

abbrev is_write : numbered_event.Event → Bool
is_write (Store a v) = true
is_write (Load a v) = false
is_write (Fence f) = false

abbrev value_written : numbered_event.Event → numbered_value.Value
value_written (Store a v) = v
value_written (Load a v) = v
value_written (Fence f) = numbers.NoValue

-- what the instance stores
abbrev Stores : Instance → Value → Type 0
Stores i w = Contains (stored_values i.instruction i.before) w

nothing_in : {X : Type 0} (x : X) → Contains [] x → ⊥
nothing_in x (k, lt, eq) = omega arith

load_stores_none : (i : text.Instruction) (s : State) (w : Value) → IsTrue (is_load i)
    → Contains (stored_values i s) w → ⊥
load_stores_none (does.LoadImmediate d n) s w load h = nothing_in w h
load_stores_none (does.Move d a) s w load h = nothing_in w h
load_stores_none (does.AddImmediate d a n) s w load h = nothing_in w h
load_stores_none (does.Compute o d a b) s w load h = nothing_in w h
load_stores_none (does.Load d a) s w load h = nothing_in w h
load_stores_none (does.LoadIndexed d a b) s w load h = nothing_in w h
load_stores_none (does.Store d a) s w load h = true≢false (sym load)
load_stores_none (does.StoreIndexed d a b) s w load h = true≢false (sym load)
load_stores_none (does.Compare a b) s w load h = nothing_in w h
load_stores_none (does.CompareImmediate a n) s w load h = nothing_in w h
load_stores_none (does.BranchIf c l) s w load h = nothing_in w h
load_stores_none (does.Branch l) s w load h = nothing_in w h
load_stores_none (does.Fence f) s w load h = nothing_in w h

other_stores_none : (i : text.Instruction) (s : State) (w : Value) → is_event i ≡ false
    → Contains (stored_values i s) w → ⊥
other_stores_none (does.LoadImmediate d n) s w event h = nothing_in w h
other_stores_none (does.Move d a) s w event h = nothing_in w h
other_stores_none (does.AddImmediate d a n) s w event h = nothing_in w h
other_stores_none (does.Compute o d a b) s w event h = nothing_in w h
other_stores_none (does.Load d a) s w event h = nothing_in w h
other_stores_none (does.LoadIndexed d a b) s w event h = nothing_in w h
other_stores_none (does.Store d a) s w event h = true≢false event
other_stores_none (does.StoreIndexed d a b) s w event h = true≢false event
other_stores_none (does.Compare a b) s w event h = nothing_in w h
other_stores_none (does.CompareImmediate a n) s w event h = nothing_in w h
other_stores_none (does.BranchIf c l) s w event h = nothing_in w h
other_stores_none (does.Branch l) s w event h = nothing_in w h
other_stores_none (does.Fence f) s w event h = nothing_in w h

only_one : {X : Type 0} (x y : X) → Contains (x ∷ []) y → x ≡ y
only_one x y h = elim (head_or_tail x [] y h) [
  | inl eq ↦ eq
  | inr there ↦ absurd (nothing_in y there)
]

one_stored : (names : List Name) (i : Instance) {es : List numbered_event.Event}
    → AreEventsOf names i es → (a v : numbered_value.Value) → Contains es (Store a v)
    → (w : Value) × Stores i w × IsSameValue names v w
one_stored names i (told.loads {a = b} {v = u} load place value) a v h =
    absurd (true≢false (sym (ap is_write (only_one (Load b u) (Store a v) h))))
one_stored names i (told.stores {a = b} {v = u} {w = w} stored place value) a v h = (
  w,
  subst (λ (ws : List Value). Contains ws w) (sym stored) (here w []),
  subst (λ (x : numbered_value.Value). IsSameValue names x w)
      (ap value_written (only_one (Store b u) (Store a v) h)) value,
)
one_stored names i (told.fences {f = f} fence) a v h =
    absurd (true≢false (sym (ap is_write (only_one (Fence f) (Store a v) h))))
one_stored names i (told.nothing event) a v h = absurd (nothing_in (Store a v) h)

one_written : (names : List Name) (i : Instance) {es : List numbered_event.Event}
    → AreEventsOf names i es → (w : Value) → Stores i w
    → (a : numbered_value.Value) × (v : numbered_value.Value) × Contains es (Store a v)
    × IsSameValue names v w
one_written names i (told.loads load place value) w h =
    absurd (load_stores_none i.instruction i.before w load h)
one_written names i (told.stores {a = a} {v = v} {w = z} stored place value) w h = (
  a,
  v,
  here (Store a v) [],
  subst (λ (x : Value). IsSameValue names v x)
      (only_one z w (subst (λ (ws : List Value). Contains ws w) stored h)) value,
)
one_written names i (told.fences {f = f} fence) w h =
    absurd (nothing_in w (subst (λ (x : text.Instruction). Contains (stored_values x i.before) w) fence h))
one_written names i (told.nothing event) w h =
    absurd (other_stores_none i.instruction i.before w event h)

module _ (names labels : List Name) where
  stored_down : {steps : List RunStep} {events : List numbered_event.Event} {is : List Instance}
      → AreSameSteps names labels steps events is → (a v : numbered_value.Value)
      → Contains events (Store a v)
      → (i : Instance) × (w : Value) × Contains is i × Stores i w × IsSameValue names v w
  stored_down runs.none a v h = absurd (nothing_in (Store a v) h)
  stored_down (runs.more {es = es} {events = events} {i = i} {instances = is} same loaded does rest) a v h =
      elim (Contains-append_cases es events (Store a v) h) [
        | inl there ↦
            let one : _ = one_stored names i does a v there in
            (i, one.0, here i is, one.1, one.2)
        | inr later ↦
            let found : _ = stored_down rest a v later in
            (found.0, found.1, behind i is found.0 found.2, found.3, found.4)
      ]

  stored_up : {steps : List RunStep} {events : List numbered_event.Event} {is : List Instance}
      → AreSameSteps names labels steps events is → (i : Instance) (w : Value)
      → Contains is i → Stores i w
      → (a : numbered_value.Value) × (v : numbered_value.Value) × Contains events (Store a v)
      × IsSameValue names v w
  stored_up runs.none i w there stored = absurd (nothing_in i there)
  stored_up (runs.more {es = es} {events = events} {i = j} {instances = is} same loaded does rest) i w there stored =
      elim (head_or_tail j is i there) [
        | inl eq ↦
            let one : _ = one_written names j does w (subst (λ (k : Instance). Stores k w) (sym eq) stored) in
            (one.0, one.1, Contains-append_left es events (Store one.0 one.1) one.2, one.3)
        | inr later ↦
            let found : _ = stored_up rest i w later stored in
            (found.0, found.1, Contains-append_right es events (Store found.0 found.1) found.2, found.3)
      ]

-- ---- Values of loads

module _ (names : List Name) (P : numbered_value.Value → Type 0) (Q : Value → Type 0) where
  pub values_down : ((v : numbered_value.Value) → P v → (w : Value) × IsSameValue names v w × Q w)
      → (vs : List numbered_value.Value) → All P vs
      → (ws : List Value) × AreSameValues names vs ws × All Q ws
  values_down to [] all = ([], none, All-nil Q)
  values_down to (v ∷ vs) all =
      let one : _ = to v (All-head P v vs all) in
      let rest : _ = values_down to vs (All-tail P v vs all) in
      (one.0 ∷ rest.0, more one.1 rest.1, All-cons Q one.0 rest.0 one.2 rest.2)

  pub values_up : ((w : Value) → Q w → (v : numbered_value.Value) × IsSameValue names v w × P v)
      → (ws : List Value) → All Q ws
      → (vs : List numbered_value.Value) × AreSameValues names vs ws × All P vs
  values_up to [] all = ([], none, All-nil P)
  values_up to (w ∷ ws) all =
      let one : _ = to w (All-head Q w ws all) in
      let rest : _ = values_up to ws (All-tail Q w ws all) in
      (one.0 ∷ rest.0, more one.1 rest.1, All-cons P one.0 rest.0 one.2 rest.2)

nothing_down : (names : List Name) {v : numbered_value.Value} {w : Value} → IsSameValue names v w
    → v ≡ numbers.NoValue → w ≡ NoValue
nothing_down names (number n) e = absurd (let none : numbers.Number n ≡ numbers.NoValue = e in cc)
nothing_down names (address k lt) e =
    absurd (let none : numbers.Address k ≡ numbers.NoValue = e in cc)
nothing_down names nothing e = refl

nothing_up : (names : List Name) {v : numbered_value.Value} {w : Value} → IsSameValue names v w
    → w ≡ NoValue → v ≡ numbers.NoValue
nothing_up names (number n) e = absurd cc
nothing_up names (address k lt) e = absurd cc
nothing_up names nothing e = refl

-- ---- Rounds

module _ (t : Test) (p : Program) (of : IsProgram t p) where
  abbrev names : List Name
  names = locations (content_of t)

  initial_are : AreInitial t.init.items names p.initial.items
  initial_are =
      subst (λ (ns : List Name). AreInitial t.init.items ns p.initial.items)
      (numbered_are t p.locations.items of.locations) of.initial

  holds : (k : ℕ) → k < length names
      → IsSameValue names (get_or p.initial.items k numbers.NoValue)
      (initial_value (content_of t) (places.Location (get_or names k [])))
  holds k lt =
      starts_alike (content_of t) (places.Location (get_or names k []))
      (get_or p.initial.items k numbers.NoValue) (initial_are.starts k lt)

  at_first : AreSameSets names (InDomainAt p 0) (InRound (content_of t) 0)
  at_first = record {
    by_name = λ v h.
        let lt : h.0 < length names =
        subst (λ (n : ℕ). h.0 < n) initial_are.each_one h.1 in
        let is : get_or p.initial.items h.0 numbers.NoValue ≡ v =
        get_or_default p.initial.items h.0 numbers.NoValue v h.1 ∙ h.2 in
        let l : Name = get_or names h.0 [] in (
          initial_value (content_of t) (places.Location l),
          subst (λ (u : numbered_value.Value). IsSameValue names u (initial_value (content_of t) (places.Location l)))
              is (holds h.0 lt),
          (l, Contains-get_or names h.0 [] lt, refl),
        );
    by_number = λ w h.
        let k : ℕ = h.1.0 in
        let is : get_or names k [] ≡ h.0 =
        get_or_default names k [] h.0 h.1.1 ∙ h.1.2 in (
          get_or p.initial.items k numbers.NoValue,
          subst (λ (u : Value). IsSameValue names (get_or p.initial.items k numbers.NoValue) u)
              (ap (λ (l : Name). initial_value (content_of t) (places.Location l)) is ∙ sym h.2)
              (holds k h.1.1),
          Contains-get_or p.initial.items k numbers.NoValue
              (subst (λ (n : ℕ). k < n) (sym initial_are.each_one) h.1.1),
        );
  }

  module _ (k : ℕ) (so_far : AreSameSets names (InDomainAt p k) (InRound (content_of t) k)) where
    stored_by_name : (v : numbered_value.Value)
        → by_number.StoresFreely (threads_of p) (InDomainAt p k) v
        → (w : Value) × IsSameValue names v w
        × IsStoredFreely (content_of t) (InRound (content_of t) k) w
    stored_by_name v (thread, there, bs, vs, all, f, is, a, writes) =
        let j : _ = which_thread p (vec_len p.threads) thread there in
        let under : j.0 < length t.threads.items =
        subst (λ (n : ℕ). j.0 < n) (p.threads.ok.0 ∙ of.threads.each_one) j.1 in
        let alike : _ = runs_alike t p of j.0 under in
        let us : _ = values_down names (InDomainAt p k) (InRound (content_of t) k) so_far.by_name vs all in
        let run : _ = run_by_name names alike.labels (alike.free_runs bs vs us.0 us.1) f
        (subst (λ (q : Thread). by_number.free_run_of q.lines q.first bs vs ≡ Some f) (sym j.2) is) in
        let stored : _ = stored_down names alike.labels run.2.steps a v writes in (
          stored.1,
          stored.4,
          (
            j.0,
            subst (λ (n : ℕ). j.0 < n) (sym (length-map t.threads.items thread_steps)) under,
            record { choices = bs; values = us.0; run = run.0 },
            (us.2, run.1),
            (stored.0, stored.2, stored.3),
          ),
        )

    stored_by_number : (w : Value) → IsStoredFreely (content_of t) (InRound (content_of t) k) w
        → (v : numbered_value.Value) × IsSameValue names v w
        × by_number.StoresFreely (threads_of p) (InDomainAt p k) v
    stored_by_number w (j, lt, f, (all, is), (i, there, stores)) =
        let under : j < length t.threads.items =
        subst (λ (n : ℕ). j < n) (length-map t.threads.items thread_steps) lt in
        let alike : _ = runs_alike t p of j under in
        let vs : _ = values_up names (InDomainAt p k) (InRound (content_of t) k) so_far.by_number f.values all in
        let run : _ = run_by_number names alike.labels (alike.free_runs f.choices vs.0 f.values vs.1) f.run is in
        let written : _ = stored_up names alike.labels run.2.steps i w there stores in (
          written.1,
          written.3,
          (
            thread_of p j,
            has_thread p (vec_len p.threads) j
                (subst (λ (n : ℕ). j < n) (sym (p.threads.ok.0 ∙ of.threads.each_one)) under),
            f.choices,
            vs.0,
            vs.2,
            run.0,
            run.1,
            written.0,
            written.2,
          ),
        )

    one_more : AreSameSets names (InDomainAt p (suc k)) (InRound (content_of t) (suc k))
    one_more = record {
      by_name = λ v h. elim h [
        | inl before ↦
            let one : _ = so_far.by_name v before in (one.0, one.1, inl one.2)
        | inr (stored, proper) ↦
            let one : _ = stored_by_name v stored in
            (one.0, one.1, inr (one.2, λ e. proper (nothing_up names one.1 e)))
      ];
      by_number = λ w h. elim h [
        | inl before ↦
            let one : _ = so_far.by_number w before in (one.0, one.1, inl one.2)
        | inr (stored, proper) ↦
            let one : _ = stored_by_number w stored in
            (one.0, one.1, inr (one.2, λ e. proper (nothing_down names one.1 e)))
      ];
    }

  pub rounds_alike : (k : ℕ) → AreSameSets names (InDomainAt p k) (InRound (content_of t) k)
  rounds_alike zero = at_first
  rounds_alike (suc k) = one_more k (rounds_alike k)
