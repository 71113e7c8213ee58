-- The runs of a thread over a finite set of values are finite.
use Rattle.std.proofs.Common.{◌≡◌, ℕ, Bool, true, false, List, [], ◌∷◌, All, Option, Some, None, length, ap, ◌∙◌}
use Rattle.std.specs.Prelude.{option_map, if◌then◌else◌}
use Rattle.std.proofs.lemmas.List.Elements.{All-nil, All-cons, All-head, All-tail}
use Rattle.text_values.specs.declared.test.Step.{Step}
use Rattle.text_values.specs.declared.test.Step.TheVariants.{Label, Instruction}
use Rattle.text_values.specs.declared.instruction.Instruction as text
use Rattle.text_values.specs.TestValue.{Content}
use Rattle.meaning.specs.Sets.{Set}
use Rattle.meaning.specs.Names.{Name}
use Rattle.meaning.specs.Machine.{Value, NoValue, State, is_load, is_fault, is_taken_in, state_after, target}
use Rattle.meaning.specs.Runs.{Instance, Run, with_instance, end_of_run, label_after, run_of, run_from, initial_state, lines_of_thread, IsRun}
use Rattle.meaning.specs.Executions.{AreRuns}
use Rattle.meaning.specs.Domain.{InDomain}
use Rattle.plain_runs.specs.Runs.{IsRunFrom}
use Rattle.plain_runs.proofs.Running.{no_some, same_some, option_mapped}
use Rattle.meanings_exist.proofs.Finite.{Finite, finite_as, finite_one, finite_over, finite_map, finite_columns, AreColumns}

module _ (V : Set Value) (values : Finite V) where
  -- the runs that end at once
  abbrev Ends : Bool → State → Set Run
  Ends faulted s r = (vs : List Value) × All V vs × (end_of_run faulted s vs ≡ Some r)

  ended : (faulted : Bool) (s : State) → Finite (Ends faulted s)
  ended faulted s =
      finite_as (λ r. record { instances = []; final = s; faulted = faulted } ≡ r)
      (Ends faulted s) (λ r e. ([], All-nil V, ap (λ (q : Run). Some q) e)) back
      (finite_one (record { instances = []; final = s; faulted = faulted }))
    where
      back : (r : Run) → Ends faulted s r
          → record { instances = []; final = s; faulted = faulted } ≡ r
      back r ([], all, e) = same_some (record { instances = []; final = s; faulted = faulted }) r e
      back r (v ∷ vs, all, e) = absurd (no_some r e)

  module _ (lines : List Step) (i : text.Instruction) (taken : Bool) (s : State)
      (rest : (l : Option Name) (u : State) → Finite (IsRunFrom V lines l u)) where
    abbrev instance_with : Value → Instance
    instance_with v = record { instruction = i; before = s; loaded = v }

    -- the runs that begin with the instruction, which loads this value
    abbrev Begins : Value → Set Run
    Begins v r =
        (q : Run) × IsRunFrom V lines (target i taken) (state_after i v s) q
        × (with_instance (instance_with v) q ≡ r)

    begun : (v : Value) → Finite (Begins v)
    begun v =
        finite_map (IsRunFrom V lines (target i taken) (state_after i v s))
        (with_instance (instance_with v)) (rest (target i taken) (state_after i v s))

    abbrev GoesOn : Bool → Set Run
    GoesOn loads r =
        (vs : List Value) × All V vs
        × (run_from loads i taken s (λ l u us. run_of lines l u us) vs ≡ Some r)

    -- what goes on after the instruction is a run of the rest
    found : (v : Value) (vs : List Value) (r : Run) → All V vs
        → option_map (with_instance (instance_with v))
        (run_of lines (target i taken) (state_after i v s) vs)
        ≡ Some r
        → Begins v r
    found v vs r all e =
        let h : _ =
        option_mapped (with_instance (instance_with v))
        (run_of lines (target i taken) (state_after i v s) vs) r e in
        (h.0, (vs, all, h.1), h.2)

    goes : (v : Value) (r : Run) (h : Begins v r)
        → option_map (with_instance (instance_with v))
        (run_of lines (target i taken) (state_after i v s) h.1.0)
        ≡ Some r
    goes v r h =
        ap (option_map (with_instance (instance_with v))) h.1.2
        ∙ ap (λ (q : Run). Some q) h.2

    pub going_on : (loads : Bool) → Finite (GoesOn loads)
    going_on true =
        finite_as (λ r. (v : Value) × V v × Begins v r) (GoesOn true)
        (λ r h. (h.0 ∷ h.2.1.0, All-cons V h.0 h.2.1.0 h.1 h.2.1.1, goes h.0 r h.2)) back
        (finite_over V Begins values (λ v is. begun v))
      where
        back : (r : Run) → GoesOn true r → (v : Value) × V v × Begins v r
        back r ([], all, e) = absurd (no_some r e)
        back r (v ∷ vs, all, e) = (v, All-head V v vs all, found v vs r (All-tail V v vs all) e)
    going_on false =
        finite_as (Begins NoValue) (GoesOn false)
        (λ r h. (h.1.0, h.1.1, goes NoValue r h)) (λ r h. found NoValue h.0 r h.1 h.2)
        (begun NoValue)

  abbrev AtFault : Bool → text.Instruction → State → List Step → Set Run
  AtFault fault i s lines r =
      (vs : List Value) × All V vs
      × ((if fault then end_of_run true s vs
      else run_from (is_load i) i (is_taken_in s i) s (λ l u us. run_of lines l u us) vs)
      ≡ Some r)

  at_fault : (fault : Bool) (i : text.Instruction) (s : State) (lines : List Step)
      → ((l : Option Name) (u : State) → Finite (IsRunFrom V lines l u))
      → Finite (AtFault fault i s lines)
  at_fault true i s lines rest = ended true s
  at_fault false i s lines rest = going_on lines i (is_taken_in s i) s rest (is_load i)

  pub runs_from : (lines : List Step) (seeking : Option Name) (s : State)
      → Finite (IsRunFrom V lines seeking s)
  runs_from [] seeking s = ended false s
  runs_from (Label m ∷ lines) seeking s = runs_from lines (label_after m seeking) s
  runs_from (Instruction i ∷ lines) (Some l) s = runs_from lines (Some l) s
  runs_from (Instruction i ∷ lines) None s =
      at_fault (is_fault i s) i s lines (λ l u. runs_from lines l u)

  pub thread_runs : (t : Content) (thread : ℕ) → Finite (IsRun t V thread)
  thread_runs t thread =
      runs_from (lines_of_thread t thread) None (initial_state t thread)

-- the runs of all threads
pub all_runs : (t : Content) → Finite (InDomain t) → Finite (AreRuns t)
all_runs t domain =
    finite_as (AreColumns (IsRun t (InDomain t)) (length t.threads)) (AreRuns t)
    (λ rs h. record { threads = h.0; each = h.1 }) (λ rs h. (h.threads, h.each))
    (finite_columns (IsRun t (InDomain t)) (length t.threads)
    (λ thread lt. thread_runs (InDomain t) domain t thread))
