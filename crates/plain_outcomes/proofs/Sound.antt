-- What a run of an execution does that is a load, a store or a fence is an event: no instruction of
-- a run is a fault.
use Rattle.std.proofs.Common.{◌≡◌, ℕ, zero, suc, Bool, true, false, not, List, [], ◌∷◌, Option, Some, None, option_map, unwrap_or, slice_get, IsTrue, Contains, if◌then◌else◌, refl, sym, subst, arith, true≢false}
use Rattle.std.specs.List.{AllByRecursion}
use Rattle.std.proofs.lemmas.Option.{same_Some, none-some}
use Rattle.text_values.specs.declared.test.Step.{Step}
use Rattle.text_values.specs.declared.test.Step.TheVariants.{Label, Instruction}
use Rattle.text_values.specs.declared.instruction.Instruction as text
use Rattle.text_values.specs.declared.instruction.Instruction.TheVariants as does
use Rattle.text_values.specs.TestValue.{Content}
use Rattle.meaning.specs.Names.{Name}
use Rattle.meaning.specs.Machine.{Value, Number, Address, NoValue, State, register, sum_of, is_address, is_load, is_fault, is_taken_in, target, state_after}
use Rattle.meaning.specs.Runs.{Instance, Run, Rest, end_of_run, run_with, run_from, run_of, with_instance, label_after, lines_of_thread, initial_state}
use Rattle.meaning.specs.Dependencies.{is_event}
use Rattle.meaning.specs.Executions.{Does, Execution, Action, Loads, Stores, Fences, IsActionOf, IsEvent, IsExecution, instances_of, instructions_of}

-- ---- runs execute no fault

abbrev IsSound : Instance → Type 0
IsSound i = is_fault i.instruction i.before ≡ false

abbrev AreSound : Run → Type 0
AreSound r = AllByRecursion IsSound r.instances

-- what the lines from one on do
abbrev RestIsSound : Rest → Type 0
RestIsSound rest =
    (l : Option Name) (s : State) (vs : List Value) (r : Run) → rest l s vs ≡ Some r → AreSound r

ended : (faulted : Bool) (s : State) (vs : List Value) (r : Run)
    → end_of_run faulted s vs ≡ Some r → AreSound r
ended faulted s [] r e = subst AreSound (same_Some _ _ e) tt
ended faulted s (v ∷ vs) r e = absurd (none-some r e)

begun : (i : Instance) (o : Option Run) (r : Run) → IsSound i
    → ((q : Run) → o ≡ Some q → AreSound q) → option_map (with_instance i) o ≡ Some r → AreSound r
begun i None r sound rest e = absurd (none-some r e)
begun i (Some q) r sound rest e = subst AreSound (same_Some _ _ e) (sound, rest q refl)

module _ (i : text.Instruction) (taken : Bool) (s : State) (rest : Rest)
    (sound : is_fault i s ≡ false) (keeps : RestIsSound rest) (r : Run) where
  with_value : (v : Value) (vs : List Value) → run_with i taken v s rest vs ≡ Some r → AreSound r
  with_value v vs e =
      begun (record { instruction = i; before = s; loaded = v })
      (rest (target i taken) (state_after i v s) vs) r sound
      (λ q at. keeps (target i taken) (state_after i v s) vs q at) e

  from_here : (loads : Bool) (vs : List Value) → run_from loads i taken s rest vs ≡ Some r
      → AreSound r
  from_here true [] e = absurd (none-some r e)
  from_here true (v ∷ vs) e = with_value v vs e
  from_here false vs e = with_value NoValue vs e

executed : (i : text.Instruction) (s : State) (rest : Rest) → RestIsSound rest → (vs : List Value)
    (r : Run) (b : Bool) → is_fault i s ≡ b
    → (if b then end_of_run true s vs else run_from (is_load i) i (is_taken_in s i) s rest vs)
    ≡ Some r
    → AreSound r
executed i s rest keeps vs r true at e = ended true s vs r e
executed i s rest keeps vs r false at e =
    from_here i (is_taken_in s i) s rest at keeps r (is_load i) vs e

run_is_sound : (xs : List Step) → RestIsSound (run_of xs)
run_is_sound [] seeking s vs r e = ended false s vs r e
run_is_sound (Label m ∷ xs) seeking s vs r e = run_is_sound xs (label_after m seeking) s vs r e
run_is_sound (Instruction i ∷ xs) (Some l) s vs r e = run_is_sound xs (Some l) s vs r e
run_is_sound (Instruction i ∷ xs) None s vs r e =
    executed i s (λ l u us. run_of xs l u us) (λ l u us q at. run_is_sound xs l u us q at) vs r
    (is_fault i s) refl e

sound_at : (is : List Instance) → AllByRecursion IsSound is → (k : ℕ) (i : Instance)
    → slice_get is k ≡ Some i → IsSound i
sound_at [] all k i at = absurd (none-some i at)
sound_at (j ∷ is) all zero i at = subst IsSound (same_Some _ _ at) all.0
sound_at (j ∷ is) all (suc k) i at = sound_at is all.1 k i at

-- ---- what an instruction does that is no fault

address_is : (v : Value) → not (is_address v) ≡ false → (l : Name) × (v ≡ Address l)
address_is (Number n) h = absurd (true≢false h)
address_is (Address l) h = (l, refl)
address_is NoValue h = absurd (true≢false h)

no_event : IsTrue false → ⊥
no_event h = true≢false (sym h)

here : (v : Value) → Contains (v ∷ []) v
here v = (0, omega arith, refl)

acts : (i : text.Instruction) (s : State) (v : Value) → is_fault i s ≡ false
    → IsTrue (is_event i)
    → (a : Action) × IsActionOf (record { instruction = i; before = s; loaded = v }) a
acts (does.Load d a) s v sound event =
    let at : _ = address_is (register s a) sound in (Loads at.0 v, (refl, at.1, refl))
acts (does.LoadIndexed d a b) s v sound event =
    let at : _ = address_is (sum_of (register s a) (register s b)) sound in
    (Loads at.0 v, (refl, at.1, refl))
acts (does.Store d a) s v sound event =
    let at : _ = address_is (register s a) sound in
    (Stores at.0 (register s d), (at.1, here (register s d)))
acts (does.StoreIndexed d a b) s v sound event =
    let at : _ = address_is (sum_of (register s a) (register s b)) sound in
    (Stores at.0 (register s d), (at.1, here (register s d)))
acts (does.Fence f) s v sound event = (Fences f, refl)
acts (does.LoadImmediate d n) s v sound event = absurd (no_event event)
acts (does.Move d a) s v sound event = absurd (no_event event)
acts (does.AddImmediate d a n) s v sound event = absurd (no_event event)
acts (does.Compute o d a b) s v sound event = absurd (no_event event)
acts (does.Compare a b) s v sound event = absurd (no_event event)
acts (does.CompareImmediate a n) s v sound event = absurd (no_event event)
acts (does.BranchIf c l) s v sound event = absurd (no_event event)
acts (does.Branch l) s v sound event = absurd (no_event event)

-- ---- in an execution

module _ (t : Content) (x : Execution) (is : IsExecution t x) where
  in_thread : (thread : ℕ) (o : Option Run) → slice_get x.runs thread ≡ o
      → AllByRecursion IsSound (unwrap_or (option_map (λ (r : Run). r.instances) o) [])
  in_thread thread None at = tt
  in_thread thread (Some r) at =
      let run : _ = is.runs.each thread r at in
      run_is_sound (lines_of_thread t thread) None (initial_state t thread) run.0 r run.2

  does_event : (thread index : ℕ) (o : Option Instance)
      → slice_get (instances_of x thread) index ≡ o
      → IsTrue (is_event (unwrap_or (option_map (λ (i : Instance). i.instruction) o) (does.Branch [])))
      → IsEvent t x (Does thread index)
  does_event thread index None at event = absurd (no_event event)
  does_event thread index (Some i) at event =
      let sound : IsSound i =
      sound_at (instances_of x thread) (in_thread thread (slice_get x.runs thread) refl) index i at in
      let done : _ = acts i.instruction i.before i.loaded sound event in
      (done.0, (i, at, done.1))

  -- what is executed and is a load, a store or a fence is an event
  pub event_at : (thread index : ℕ) → IsTrue (is_event (instructions_of x thread index))
      → IsEvent t x (Does thread index)
  event_at thread index event =
      does_event thread index (slice_get (instances_of x thread) index) refl event
