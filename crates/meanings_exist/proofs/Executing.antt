-- Two executions of a test are one, or they are not: a run is told by the values that its loads
-- take.
use Rattle.std.proofs.Common.{◌≡◌, inl, inr, ℕ, suc, Bool, true, false, List, [], ◌∷◌, map, Option, Some, None, slice_get, if◌then◌else◌, refl, sym, ap, ap₂, subst, ◌∙◌}
use Rattle.text_values.specs.declared.test.Step.{Step}
use Rattle.text_values.specs.declared.test.Step.TheVariants.{Label, Instruction}
use Rattle.text_values.specs.declared.instruction.Instruction as text
use Rattle.text_values.specs.TestValue.{Content}
use Rattle.meaning.specs.Names.{Name}
use Rattle.meaning.specs.Machine.{Value, NoValue, State, is_load, is_fault, is_taken_in, state_after, target}
use Rattle.meaning.specs.Runs.{Instance, Run, Rest, with_instance, end_of_run, run_from, label_after, run_of, initial_state, lines_of_thread, IsRun}
use Rattle.meaning.specs.Domain.{InDomain}
use Rattle.meaning.specs.Executions.{Execution, AreRuns, IsExecution}
use Rattle.plain_runs.proofs.Running.{no_some, same_some, option_mapped}
use Rattle.meanings_exist.proofs.Decisions.{Decided, decided_as, same_value, same_event, same_list, same_head, same_tail}

-- ---- what the loads of a run take

abbrev pub loaded_in : List Instance → List Value
loaded_in [] = []
loaded_in (i ∷ is) =
    if is_load i.instruction then i.loaded ∷ loaded_in is else loaded_in is

abbrev pub loaded_by : Run → List Value
loaded_by r = loaded_in r.instances

-- the loads take just the values that are given
abbrev TakesAll : Rest → Type 0
TakesAll rest =
    (l : Option Name) (s : State) (vs : List Value) (r : Run) → rest l s vs ≡ Some r
    → loaded_by r ≡ vs

ended : (faulted : Bool) (s : State) (vs : List Value) (r : Run)
    → end_of_run faulted s vs ≡ Some r → loaded_by r ≡ vs
ended faulted s [] r e =
    ap loaded_by (sym (same_some (record { instances = []; final = s; faulted = faulted }) r e))
ended faulted s (v ∷ vs) r e = absurd (no_some r e)

module _ (i : text.Instruction) (taken : Bool) (s : State) (rest : Rest) (takes : TakesAll rest)
    (r : Run) where
  instance_with : Value → Instance
  instance_with v = record { instruction = i; before = s; loaded = v }

  from_here : (b : Bool) (vs : List Value) → is_load i ≡ b
      → run_from b i taken s rest vs ≡ Some r → loaded_by r ≡ vs
  from_here true [] loads e = absurd (no_some r e)
  from_here true (v ∷ vs) loads e =
      let i' : Instance = record { instruction = i; before = s; loaded = v } in
      let found : (q : Run) × (rest (target i taken) (state_after i v s) vs ≡ Some q)
      × (with_instance i' q ≡ r) =
      option_mapped (with_instance i') (rest (target i taken) (state_after i v s) vs) r e in
      let later : loaded_by found.0 ≡ vs =
      takes (target i taken) (state_after i v s) vs found.0 found.1 in
      subst (λ (q : Run). loaded_by q ≡ v ∷ vs) found.2
      (ap (λ (b : Bool). if b then v ∷ loaded_by found.0 else loaded_by found.0) loads
      ∙ ap (λ (us : List Value). v ∷ us) later)
  from_here false vs loads e =
      let i' : Instance = record { instruction = i; before = s; loaded = NoValue } in
      let found : (q : Run) × (rest (target i taken) (state_after i NoValue s) vs ≡ Some q)
      × (with_instance i' q ≡ r) =
      option_mapped (with_instance i') (rest (target i taken) (state_after i NoValue s) vs) r e in
      let later : loaded_by found.0 ≡ vs =
      takes (target i taken) (state_after i NoValue s) vs found.0 found.1 in
      subst (λ (q : Run). loaded_by q ≡ vs) found.2
      (ap (λ (b : Bool). if b then NoValue ∷ loaded_by found.0 else loaded_by found.0) loads
      ∙ later)

executed : (i : text.Instruction) (s : State) (rest : Rest) → TakesAll rest → (vs : List Value)
    (r : Run) (b : Bool)
    → (if b then end_of_run true s vs else run_from (is_load i) i (is_taken_in s i) s rest vs)
    ≡ Some r
    → loaded_by r ≡ vs
executed i s rest takes vs r true e = ended true s vs r e
executed i s rest takes vs r false e =
    from_here i (is_taken_in s i) s rest takes r (is_load i) vs refl e

pub run_takes : (xs : List Step) → TakesAll (run_of xs)
run_takes [] seeking s vs r e = ended false s vs r e
run_takes (Label m ∷ xs) seeking s vs r e = run_takes xs (label_after m seeking) s vs r e
run_takes (Instruction i ∷ xs) (Some l) s vs r e = run_takes xs (Some l) s vs r e
run_takes (Instruction i ∷ xs) None s vs r e =
    executed i s (λ l u us. run_of xs l u us) (λ l u us q at. run_takes xs l u us q at) vs r
    (is_fault i s) e

-- runs of a thread whose loads take the same values are one
pub one_run : (t : Content) (V : Value → Type 0) (thread : ℕ) (q r : Run) → IsRun t V thread q
    → IsRun t V thread r → loaded_by q ≡ loaded_by r → q ≡ r
one_run t V thread q r (vs, all, is) (ws, also, are) same =
    let first : loaded_by q ≡ vs =
    run_takes (lines_of_thread t thread) None (initial_state t thread) vs q is in
    let second : loaded_by r ≡ ws =
    run_takes (lines_of_thread t thread) None (initial_state t thread) ws r are in
    same_some q r
    (sym is
    ∙ ap (λ (us : List Value). run_of (lines_of_thread t thread) None (initial_state t thread) us)
    (sym first ∙ same ∙ second)
    ∙ are)

-- ---- executions

runs_are_one : (P : ℕ → Run → Type 0)
    → ((k : ℕ) (q r : Run) → P k q → P k r → loaded_by q ≡ loaded_by r → q ≡ r)
    → (qs rs : List Run) → ((k : ℕ) (q : Run) → slice_get qs k ≡ Some q → P k q)
    → ((k : ℕ) (r : Run) → slice_get rs k ≡ Some r → P k r)
    → map loaded_by qs ≡ map loaded_by rs → qs ≡ rs
runs_are_one P one [] [] first second same = refl
runs_are_one P one [] (r ∷ rs) first second same = absurd (let wrong : ⊥ = cc in wrong)
runs_are_one P one (q ∷ qs) [] first second same = absurd (let wrong : ⊥ = cc in wrong)
runs_are_one P one (q ∷ qs) (r ∷ rs) first second same =
    ap₂ (λ (h : Run) (rest : List Run). h ∷ rest)
    (one 0 q r (first 0 q refl) (second 0 r refl)
    (same_head (loaded_by q) (loaded_by r) (map loaded_by qs) (map loaded_by rs) same))
    (runs_are_one (λ k. P (suc k)) (λ k. one (suc k)) qs rs (λ k p at. first (suc k) p at)
    (λ k p at. second (suc k) p at)
    (same_tail (loaded_by q) (loaded_by r) (map loaded_by qs) (map loaded_by rs) same))

pub same_rows : (t : Content) (qs rs : List Run) → AreRuns t qs → AreRuns t rs
    → Decided (qs ≡ rs)
same_rows t qs rs is are =
    decided_as (runs_are_one (IsRun t (InDomain t)) (one_run t (InDomain t)) qs rs is.each are.each)
    (λ e. ap (λ (l : List Run). map loaded_by l) e)
    (same_list (same_list same_value) (map loaded_by qs) (map loaded_by rs))

pub same_or_not : (t : Content) (x y : Execution) → IsExecution t x → IsExecution t y
    → Decided (x ≡ y)
same_or_not t x y is are =
    joined (same_rows t x.runs y.runs is.runs are.runs) (same_list same_event x.reads_from y.reads_from)
    (same_list (same_list same_event) x.coherence y.coherence)
  where
    joined : Decided (x.runs ≡ y.runs) → Decided (x.reads_from ≡ y.reads_from)
        → Decided (x.coherence ≡ y.coherence) → Decided (x ≡ y)
    joined (inl runs) (inl reads) (inl orders) =
        inl (λ i. record { runs = runs i; reads_from = reads i; coherence = orders i })
    joined (inr other) reads orders = inr (λ e. other (ap (λ (z : Execution). z.runs) e))
    joined (inl runs) (inr other) orders =
        inr (λ e. other (ap (λ (z : Execution). z.reads_from) e))
    joined (inl runs) (inl reads) (inr other) =
        inr (λ e. other (ap (λ (z : Execution). z.coherence) e))
