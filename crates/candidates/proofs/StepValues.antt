-- The value of an event of a run is that of its step: of a load what it was given, of a store what
-- its register holds.
use Rattle.std.proofs.Common.{ℕ, zero, suc, ◌≡◌, ◌<◌, ◌+◌, ◌-◌, ◌⊎◌, true, List, [], ◌∷◌, length, Some, slice_get, refl, ap, sym, subst, ◌∙◌, inl, inr, arith}
use Rattle.std.proofs.lemmas.Bool.{cases_eq, cases_lt}
use Rattle.std.proofs.lemmas.List.{length-append}
use Rattle.thread_runs.specs.declared.value.Value.{Value}
use Rattle.thread_runs.specs.declared.instruction.Event as run
use Rattle.thread_runs.specs.declared.instruction.Event.TheVariants as run_event
use Rattle.thread_runs.specs.declared.instruction.Instruction.{Instruction}
use Rattle.thread_runs.specs.declared.instruction.Instruction.TheVariants.{Immediate, Move, AddImmediate, Operate, Load, LoadIndexed, Store, StoreIndexed, Compare, CompareImmediate, Branch, Jump, Fence}
use Rattle.thread_runs.specs.declared.instruction.Line.{Line}
use Rattle.thread_runs.specs.declared.state.State.{State}
use Rattle.thread_runs.specs.Machine.{register, is_load, event_of}
use Rattle.thread_runs.specs.Runs.{RunOutcome, walk_at, run_of, executed, loaded_at}
use Rattle.taints.specs.Chains.{Executed, Register, IsStoredRegister, event_index, is_event}
use Rattle.taints.specs.Law.{state_at, events_before, IsWalkFrom}
use Rattle.dataflow.proofs.Walks.{IsWalk-advanced, IsWalk-started}
use Rattle.candidates.proofs.Elements.{behind_first, in_first, within_first}
use Rattle.candidates.proofs.Places.{along, event_count, one_place_more}

run_is_walk : (lines : List Line) (s : State) (vs : List Value) (o : RunOutcome)
    → run_of lines s vs ≡ Some o → IsWalkFrom s o.walk
run_is_walk lines s vs o e =
    along (IsWalkFrom s) (λ i b v w sound h. IsWalk-advanced s i b v w h)
    (λ x l w h. record { state = h.state; events = h.events }) lines (walk_at s) vs o e
    (IsWalk-started s)

-- an instruction makes one event or none
shape : (i : Instruction) (v : Value) (s : State)
    → (event_of i v s ≡ []) ⊎ ((e : run.Event) × (event_of i v s ≡ e ∷ []))
shape (Immediate d n) v s = inl refl
shape (Move d a) v s = inl refl
shape (AddImmediate d a n) v s = inl refl
shape (Operate o d a b) v s = inl refl
shape (Load d a) v s = inr (_, refl)
shape (LoadIndexed d a b) v s = inr (_, refl)
shape (Store d a) v s = inr (_, refl)
shape (StoreIndexed d a b) v s = inr (_, refl)
shape (Compare a b) v s = inl refl
shape (CompareImmediate a n) v s = inl refl
shape (Branch c l) v s = inl refl
shape (Jump l) v s = inl refl
shape (Fence f) v s = inr (_, refl)

pub load_of : (i : Instruction) (v : Value) (s : State) → is_load i ≡ true
    → (a : Value) × (event_of i v s ≡ run_event.Load a v ∷ [])
load_of (Load d a) v s e = (_, refl)
load_of (LoadIndexed d a b) v s e = (_, refl)
load_of (Immediate d n) v s e = absurd cc
load_of (Move d a) v s e = absurd cc
load_of (AddImmediate d a n) v s e = absurd cc
load_of (Operate o d a b) v s e = absurd cc
load_of (Store d a) v s e = absurd cc
load_of (StoreIndexed d a b) v s e = absurd cc
load_of (Compare a b) v s e = absurd cc
load_of (CompareImmediate a n) v s e = absurd cc
load_of (Branch c l) v s e = absurd cc
load_of (Jump l) v s e = absurd cc
load_of (Fence f) v s e = absurd cc

stored_same : {a b x y : Value} → (run_event.Store a x ∷ []) ≡ (run_event.Store b y ∷ []) → x ≡ y
stored_same e = cc

abbrev pub StoresValue : Instruction → State → Value → Type 0
StoresValue i s w = (q : ℕ) × IsStoredRegister i (Register q) × (w ≡ register s q)

store_of : (i : Instruction) (v : Value) (s : State) (a w : Value)
    → event_of i v s ≡ run_event.Store a w ∷ [] → StoresValue i s w
store_of (Store d b) v s a w e = (d, refl, sym (stored_same e))
store_of (StoreIndexed d b c) v s a w e = (d, refl, sym (stored_same e))
store_of (Load d b) v s a w e = absurd cc
store_of (LoadIndexed d b c) v s a w e = absurd cc
store_of (Immediate d n) v s a w e = absurd cc
store_of (Move d b) v s a w e = absurd cc
store_of (AddImmediate d b n) v s a w e = absurd cc
store_of (Operate o d b c) v s a w e = absurd cc
store_of (Compare b c) v s a w e = absurd cc
store_of (CompareImmediate b n) v s a w e = absurd cc
store_of (Branch c l) v s a w e = absurd cc
store_of (Jump l) v s a w e = absurd cc
store_of (Fence f) v s a w e = absurd cc

-- the events of instructions, by their event places
module _ (f : Executed) (l : ℕ → Value) (s : State) where
  events_long : (n : ℕ) → length (events_before f l s n) ≡ event_index f n
  events_long zero = refl
  events_long (suc n) =
      length-append (events_before f l s n) (event_of (f n) (l n) (state_at f l s n))
      ∙ ap (λ (k : ℕ). k + length (event_of (f n) (l n) (state_at f l s n))) (events_long n)
      ∙ ap (λ (k : ℕ). event_index f n + k) (event_count (f n) (l n) (state_at f l s n))
      ∙ sym (one_place_more (is_event (f n)) (event_index f n))

  event_there : (n j : ℕ) (e : run.Event) → j < n → event_of (f j) (l j) (state_at f l s j) ≡ e ∷ []
      → slice_get (events_before f l s n) (event_index f j) ≡ Some e
  event_there zero j e lt is = absurd (omega (arith, lt))
  event_there (suc n) j e lt is = elim (cases_eq j n) [
    | inl same ↦ subst
        (λ (k : ℕ). slice_get (events_before f l s (suc n)) (event_index f k) ≡ Some e) (sym same)
        (last (sym (ap (λ (k : ℕ). event_of (f k) (l k) (state_at f l s k)) same) ∙ is))
    | inr other ↦ in_first (events_before f l s n) (event_of (f n) (l n) (state_at f l s n))
        (event_index f j) e (event_there n j e (omega (arith, lt, other)) is)
  ]
    where
      last : event_of (f n) (l n) (state_at f l s n) ≡ e ∷ []
          → slice_get (events_before f l s (suc n)) (event_index f n) ≡ Some e
      last own =
          let z : event_index f n ≡ length (events_before f l s n) + 0 = omega (arith, events_long n) in
          ap (λ (k : ℕ). slice_get (events_before f l s (suc n)) k) z
          ∙ behind_first (events_before f l s n) (event_of (f n) (l n) (state_at f l s n)) 0
          ∙ ap (λ (es : List run.Event). slice_get es 0) own

  record Step (n k : ℕ) (e : run.Event) : Type 0 where
    step : ℕ
    within : step < n
    place : event_index f step ≡ k
    event : event_of (f step) (l step) (state_at f l s step) ≡ e ∷ []

  alone : (n k d : ℕ) (e : run.Event) → k ≡ event_index f n + d
      → slice_get (event_of (f n) (l n) (state_at f l s n)) d ≡ Some e
      → (event_of (f n) (l n) (state_at f l s n) ≡ [])
      ⊎ ((x : run.Event) × (event_of (f n) (l n) (state_at f l s n) ≡ x ∷ []))
      → Step (suc n) k e
  alone n k d e at is (inl none) =
      absurd (nothing d (sym (ap (λ (es : List run.Event). slice_get es d) none) ∙ is))
    where
      nothing : (d : ℕ) → slice_get [] d ≡ Some e → ⊥
      nothing d h = cc
  alone n k d e at is (inr x) =
      go d at (sym (ap (λ (es : List run.Event). slice_get es d) x.1) ∙ is)
    where
      event_is : {y z : run.Event} → Some y ≡ Some z → y ≡ z
      event_is h = cc

      go : (d : ℕ) → k ≡ event_index f n + d → slice_get (x.0 ∷ []) d ≡ Some e → Step (suc n) k e
      go zero at h =
          record {
            step = n;
            within = omega arith;
            place = omega (arith, at);
            event = x.1 ∙ ap (λ (y : run.Event). y ∷ []) (event_is h);
          }
      go (suc d) at h = absurd cc

  step_of : (n k : ℕ) (e : run.Event) → slice_get (events_before f l s n) k ≡ Some e → Step n k e
  step_of zero k e is = absurd cc
  step_of (suc n) k e is = elim (cases_lt k (length (events_before f l s n))) [
    | inl lt ↦
        let r : Step n k e = step_of n k e (sym (within_first (events_before f l s n) (event_of (f n) (l n) (state_at f l s n)) k lt) ∙ is) in
        record { step = r.step; within = omega (arith, r.within); place = r.place; event = r.event }
    | inr ge ↦
        let d : ℕ = k - length (events_before f l s n) in
        let z : k ≡ length (events_before f l s n) + d = omega (arith, ge) in
        alone n k d e (omega (arith, z, events_long n))
        (sym (behind_first (events_before f l s n) (event_of (f n) (l n) (state_at f l s n)) d)
        ∙ ap (λ (j : ℕ). slice_get (events_before f l s (suc n)) j) (sym z) ∙ is)
        (shape (f n) (l n) (state_at f l s n))
  ]

-- where a store of a run stands, and what it stores
pub record StoredAt (s : State) (o : RunOutcome) (k : ℕ) (w : Value) : Type 0 where
  pub step : ℕ
  pub place : event_index (executed o.walk.steps) step ≡ k
  pub stores : StoresValue (executed o.walk.steps step)
      (state_at (executed o.walk.steps) (loaded_at o.walk.steps) s step) w

pub stored_at : (lines : List Line) (s : State) (vs : List Value) (o : RunOutcome)
    → run_of lines s vs ≡ Some o → (k : ℕ) (a w : Value)
    → slice_get o.walk.events k ≡ Some (run_event.Store a w) → StoredAt s o k w
stored_at lines s vs o e k a w is =
    let walk : IsWalkFrom s o.walk = run_is_walk lines s vs o e in
    let f : Executed = executed o.walk.steps in
    let l : ℕ → Value = loaded_at o.walk.steps in
    let r : Step f l s (length o.walk.steps) k (run_event.Store a w) = step_of f l s (length o.walk.steps) k (run_event.Store a w) (sym (ap (λ (es : List run.Event). slice_get es k) walk.events) ∙ is) in
    record { step = r.step; place = r.place; stores = store_of (f r.step) (l r.step) (state_at f l s r.step) a w r.event }

-- and what a load reads
pub loaded_there : (lines : List Line) (s : State) (vs : List Value) (o : RunOutcome)
    → run_of lines s vs ≡ Some o → (j : ℕ) → j < length o.walk.steps
    → is_load (executed o.walk.steps j) ≡ true
    → (a : Value)
    × (slice_get o.walk.events (event_index (executed o.walk.steps) j)
    ≡ Some (run_event.Load a (loaded_at o.walk.steps j)))
loaded_there lines s vs o e j lt load =
    let walk : IsWalkFrom s o.walk = run_is_walk lines s vs o e in
    let f : Executed = executed o.walk.steps in
    let l : ℕ → Value = loaded_at o.walk.steps in
    let own : (a : Value) × (event_of (f j) (l j) (state_at f l s j) ≡ run_event.Load a (l j) ∷ []) = load_of (f j) (l j) (state_at f l s j) load in (
      own.0,
      ap (λ (es : List run.Event). slice_get es (event_index f j)) walk.events
          ∙ event_there f l s (length o.walk.steps) j (run_event.Load own.0 (l j)) lt own.1,
    )
