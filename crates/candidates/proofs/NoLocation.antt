-- A test without a location has no address, so its runs have no loads.
use Rattle.std.proofs.Common.{vec_len, ℕ, zero, suc, ◌≡◌, not, Bool, true, false, if◌then◌else◌, List, [], ◌∷◌, ◌++◌, length, get_or, replicate, Some, slice_get, refl, ap, sym, subst, ◌∙◌, inl, inr, arith, Contains, All}
use Rattle.std.specs.Prelude.{slice_set}
use Rattle.std.specs.List.{flat_map}
use Rattle.std.proofs.lemmas.Bool.{cases_eq, cases_lt}
use Rattle.std.proofs.lemmas.List.{get_or_past, get_or-set_same, get_or-set_other, get_or-replicate, length-set, get_or_default}
use Rattle.std.proofs.lemmas.List.Elements.{All-nil, Contains-append_left, Contains-append_right, Contains-push_cases}
use Rattle.text_values.specs.declared.instruction.Operation.{Operation}
use Rattle.text_values.specs.declared.instruction.Operation.TheVariants.{Add, SubtractFrom, Xor, Or, And}
use Rattle.text_values.specs.declared.test.Test.{Test}
use Rattle.text_values.specs.declared.test.Place.{Place}
use Rattle.text_values.specs.declared.test.InitEntry.{InitEntry}
use Rattle.text_values.specs.declared.test.Value as written
use Rattle.text_values.specs.declared.test.Value.TheVariants as values
use Rattle.thread_runs.specs.declared.value.Value.{Value}
use Rattle.thread_runs.specs.declared.value.Value.TheVariants.{Number, Address, NoValue}
use Rattle.thread_runs.specs.declared.instruction.Instruction.{Instruction}
use Rattle.thread_runs.specs.declared.instruction.Instruction.TheVariants.{Immediate, Move, AddImmediate, Operate, Load, LoadIndexed, Store, StoreIndexed, Compare, CompareImmediate, Branch, Jump, Fence}
use Rattle.thread_runs.specs.declared.instruction.Line.{Line}
use Rattle.thread_runs.specs.declared.instruction.Program.{Program}
use Rattle.thread_runs.specs.declared.state.State.{State}
use Rattle.thread_runs.specs.Machine.{register, with_register, sum_of, operation_value, operated, cancels, state_after, is_address, is_fault, is_load}
use Rattle.thread_runs.specs.Runs.{Walk, RunOutcome, Thread, Run, IsThreadRun, walk_at, walk_after, run_of}
use Rattle.thread_runs.specs.AllRuns.{thread_of, first_of}
use Rattle.thread_runs.specs.ValueSet.{IsProperValue}
use Rattle.ppc_lowering.specs.Domain.{IsDomainAt, load_total, threads_from, threads_of}
use Rattle.ppc_lowering.specs.Lowering.{IsProgram, Starts, AreRegisters, lowered_value, test_names, entry_names, place_names, value_names, formula_names}
use Rattle.text_values.specs.TestValue.{formula_of}
use Rattle.candidates.proofs.AnyValues.{over_domain, zip_as, thread_of_run, RunOf}
use Rattle.candidates.proofs.Elements.{member_first, no_member, joined_there}
use Rattle.candidates.proofs.LoadValues.{read_in, read_more, values_read}
use Rattle.candidates.proofs.Places.{along}
use Rattle.candidates.specs.Executions.{Execution, IsExecution}

-- no register holds an address
abbrev HasNoAddress : State → Type 0
HasNoAddress s = (r : ℕ) → is_address (register s r) ≡ false

true_false : true ≡ false → ⊥
true_false e = cc

put : (s : State) (d : ℕ) (v : Value) → is_address v ≡ false → HasNoAddress s
    → HasNoAddress (with_register s d v)
put s d v plain h r = elim (cases_eq r d) [
  | inl same ↦ elim (cases_lt r (length s.registers)) [
    | inl lt ↦ ap is_address (ap (λ (k : ℕ). get_or (slice_set s.registers k v) r (Number 0))
        (sym same) ∙ get_or-set_same s.registers r v (Number 0) lt) ∙ plain
    | inr ge ↦ ap is_address (get_or_past (slice_set s.registers d v) r (Number 0)
        (omega (arith, ge, length-set {A = Value})))
  ]
  | inr other ↦ ap is_address (get_or-set_other s.registers d r v (Number 0) other) ∙ h r
]

sum_plain : (v w : Value) → is_address v ≡ false → is_address w ≡ false
    → is_address (sum_of v w) ≡ false
sum_plain (Number m) (Number n) h k = refl
sum_plain (Number m) (Address l) h k = absurd (true_false k)
sum_plain (Number m) NoValue h k = refl
sum_plain (Address l) w h k = absurd (true_false h)
sum_plain NoValue (Number n) h k = refl
sum_plain NoValue (Address l) h k = refl
sum_plain NoValue NoValue h k = refl

outcome_plain : (o : Operation) (v w : Value) → is_address v ≡ false → is_address w ≡ false
    → is_address (operation_value o v w) ≡ false
outcome_plain o (Address l) w h k = absurd (true_false h)
outcome_plain o (Number m) (Address l) h k = absurd (true_false k)
outcome_plain o NoValue (Address l) h k = absurd (true_false k)
outcome_plain Add (Number m) (Number n) h k = refl
outcome_plain Add (Number m) NoValue h k = refl
outcome_plain Add NoValue (Number n) h k = refl
outcome_plain Add NoValue NoValue h k = refl
outcome_plain SubtractFrom (Number m) (Number n) h k = refl
outcome_plain SubtractFrom (Number m) NoValue h k = refl
outcome_plain SubtractFrom NoValue (Number n) h k = refl
outcome_plain SubtractFrom NoValue NoValue h k = refl
outcome_plain Xor (Number m) (Number n) h k = refl
outcome_plain Xor (Number m) NoValue h k = refl
outcome_plain Xor NoValue (Number n) h k = refl
outcome_plain Xor NoValue NoValue h k = refl
outcome_plain Or (Number m) (Number n) h k = refl
outcome_plain Or (Number m) NoValue h k = refl
outcome_plain Or NoValue (Number n) h k = refl
outcome_plain Or NoValue NoValue h k = refl
outcome_plain And (Number m) (Number n) h k = refl
outcome_plain And (Number m) NoValue h k = refl
outcome_plain And NoValue (Number n) h k = refl
outcome_plain And NoValue NoValue h k = refl

operated_plain : (o : Operation) (a b : ℕ) (s : State) → HasNoAddress s
    → is_address (operated o a b s) ≡ false
operated_plain o a b s h = go (cancels o a b)
  where
    go : (c : Bool)
        → is_address (if c then Number 0 else operation_value o (register s a) (register s b)) ≡ false
    go true = refl
    go false = outcome_plain o (register s a) (register s b) (h a) (h b)

no_fault : (x : Value) → is_address x ≡ false → not (is_address x) ≡ false → ⊥
no_fault x h k = true_false (sym (ap not h) ∙ k)

-- so it stays, and nothing is loaded
record IsQuiet (w : Walk) : Type 0 where
  registers : HasNoAddress w.state
  loads : read_in w.events ≡ []

after_quiet : (i : Instruction) (v : Value) (s : State) → is_fault i s ≡ false → HasNoAddress s
    → (is_load i ≡ false) × HasNoAddress (state_after i v s)
after_quiet (Immediate d n) v s sound h = (refl, put s d (Number n) refl h)
after_quiet (Move d a) v s sound h = (refl, put s d (register s a) (h a) h)
after_quiet (AddImmediate d a n) v s sound h = (
  refl,
  put s d (sum_of (register s a) (Number n)) (sum_plain (register s a) (Number n) (h a) refl)
      h,
)
after_quiet (Operate o d a b) v s sound h =
    (refl, put s d (operated o a b s) (operated_plain o a b s h) h)
after_quiet (Load d a) v s sound h = absurd (no_fault (register s a) (h a) sound)
after_quiet (LoadIndexed d a b) v s sound h =
    absurd (no_fault (sum_of (register s a) (register s b))
    (sum_plain (register s a) (register s b) (h a) (h b)) sound)
after_quiet (Store d a) v s sound h = (refl, h)
after_quiet (StoreIndexed d a b) v s sound h = (refl, h)
after_quiet (Compare a b) v s sound h = (refl, h)
after_quiet (CompareImmediate a n) v s sound h = (refl, h)
after_quiet (Branch c l) v s sound h = (refl, h)
after_quiet (Jump l) v s sound h = (refl, h)
after_quiet (Fence f) v s sound h = (refl, h)

quiet_more : (i : Instruction) (b : Bool) (v : Value) (w : Walk) → is_fault i w.state ≡ false
    → IsQuiet w → IsQuiet (walk_after i b v w)
quiet_more i b v w sound q =
    let a : (is_load i ≡ false) × HasNoAddress (state_after i v w.state) = after_quiet i v w.state sound q.registers in
    record { registers = a.1; loads = read_more w.events i v w.state a.0 ∙ q.loads }

none_loaded : (lines : List Line) (s : State) (vs : List Value) (o : RunOutcome) → HasNoAddress s
    → run_of lines s vs ≡ Some o → vs ≡ []
none_loaded lines s vs o h e =
    sym (values_read lines s vs o e)
    ∙ (along IsQuiet (λ i b v w sound q. quiet_more i b v w sound q)
    (λ x l w q. record { registers = q.registers; loads = q.loads }) lines (walk_at s)
    vs o e (record { registers = h; loads = refl })).loads

-- the threads of a program without a location begin so
no_names : (names : List (List ℕ)) → length names ≡ 0 → names ≡ []
no_names [] e = refl
no_names (n ∷ names) e = absurd (omega (arith, e))

module _ (t : Test) (p : Program) (is : IsProgram t p) (none : p.initial.items ≡ []) where
  names : p.locations.items ≡ []
  names =
      let l : length p.initial.items ≡ 0 = ap (λ (vs : List Value). length vs) none in
      no_names p.locations.items (omega (arith, l, is.initial.each_one))

  entry_plain : (e : InitEntry) → Contains t.init.items e → (w : written.Value) → e.value ≡ w
      → is_address (lowered_value p.locations.items w) ≡ false
  entry_plain e there (values.Number n) at = refl
  entry_plain e there (values.Address name) at =
      let own : Contains (entry_names e) name = Contains-append_right (place_names e.place) (value_names e.value) name (subst (λ (w : written.Value). Contains (value_names w) name) (sym at) (member_first name [])) in
      let all : Contains (test_names t) name =
      Contains-append_left
      (flat_map entry_names t.init.items ++ formula_names (formula_of t.condition.proposition))
      (flat_map place_names t.observed.items) name
      (Contains-append_left (flat_map entry_names t.init.items)
      (formula_names (formula_of t.condition.proposition)) name
      (joined_there entry_names t.init.items e name there own)) in
      absurd (no_member name (subst (λ (ns : List (List ℕ)). Contains ns name) names
      ((is.locations.exact name).1 all)))

  starts_plain : (q : Place) (v : Value) → Starts t.init.items q p.locations.items v
      → is_address v ≡ false
  starts_plain q v (inl h) =
      ap is_address h.2
      ∙ entry_plain h.0
      (subst (λ (es : List InitEntry). Contains es h.0) (sym h.1.there)
      (Contains-append_right h.1.before (h.0 ∷ h.1.behind) h.0
      (member_first h.0 h.1.behind))) h.0.value refl
  starts_plain q v (inr h) = ap is_address h.1

  file_plain : (n : ℕ) (file : List Value) → AreRegisters t.init.items p.locations.items n file
      → (r : ℕ) → is_address (get_or file r (Number 0)) ≡ false
  file_plain n file are r = elim (cases_lt r 32) [
    | inl lt ↦ ap is_address (get_or_default file r (Number 0) NoValue
        (omega (arith, lt, are.each_one)))
        ∙ starts_plain _ (get_or file r NoValue) (are.starts r lt)
    | inr ge ↦ ap is_address (get_or_past file r (Number 0) (omega (arith, ge, are.each_one)))
  ]

  zeros_plain : (r : ℕ) → is_address (get_or (replicate 32 (Number 0)) r (Number 0)) ≡ false
  zeros_plain r = elim (cases_lt r 32) [
    | inl lt ↦ ap is_address (get_or-replicate 32 r (Number 0) (Number 0) lt)
    | inr ge ↦ ap is_address (get_or_past (replicate 32 (Number 0)) r (Number 0) ge)
  ]

  first_plain : (n : ℕ) → HasNoAddress (first_of p n)
  first_plain n r = elim (cases_lt n (length p.registers.items)) [
    | inl lt ↦
        ap (λ (file : List Value). is_address (get_or file r (Number 0)))
        (get_or_default p.registers.items n (replicate 32 (Number 0)) [] lt)
        ∙ file_plain n (get_or p.registers.items n [])
        (is.registers.starts n (omega (arith, lt, is.registers.each_one))) r
    | inr ge ↦ ap (λ (file : List Value). is_address (get_or file r (Number 0)))
        (get_or_past p.registers.items n (replicate 32 (Number 0)) ge) ∙ zeros_plain r
  ]

  thread_plain : (n : ℕ) (th : Thread) → Contains (threads_from p n) th → HasNoAddress th.first
  thread_plain zero th c = absurd (no_member th c)
  thread_plain (suc n) th c = elim (Contains-push_cases (threads_from p n) (thread_of p n) th c) [
    | inl d ↦ thread_plain n th d
    | inr e ↦ subst (λ (x : Thread). HasNoAddress x.first) e (first_plain n)
  ]

  no_values : (V : List Value) (x : Execution) → IsExecution p.initial.items (threads_of p) IsProperValue x
      → IsExecution p.initial.items (threads_of p) (Contains V) x
  no_values V x e = record {
    runs =
        zip_as (λ t r. IsThreadRun t IsProperValue r) (λ t r. IsThreadRun t (Contains V) r) (threads_of p) x.runs
        (λ its th r there h. (
          subst (λ (vs : List Value). All (Contains V) vs)
              (sym (empty its r there)) (All-nil (Contains V)),
          h.1,
        )) e.runs;
    reads = e.reads;
    orders = e.orders;
    acyclic = e.acyclic;
  }
    where
      empty : (its : ℕ) (r : Run) → slice_get x.runs its ≡ Some r → r.values ≡ []
      empty its r there =
          let o : RunOf IsProperValue (threads_of p) r = thread_of_run IsProperValue (threads_of p) x.runs its r e.runs there in
          none_loaded o.thread.lines o.thread.first r.values r.outcome
          (thread_plain (vec_len p.threads) o.thread o.there) o.is.1

-- so the law of the domain holds for each test
pub over_any_domain : (t : Test) (p : Program) (V : List Value) → IsProgram t p
    → IsDomainAt p (load_total p) V → (x : Execution)
    → IsExecution p.initial.items (threads_of p) IsProperValue x
    → IsExecution p.initial.items (threads_of p) (Contains V) x
over_any_domain t p V is d x e = go p.initial.items refl
  where
    go : (vs : List Value) → p.initial.items ≡ vs
        → IsExecution p.initial.items (threads_of p) (Contains V) x
    go [] none = no_values t p is none V x e
    go (v ∷ vs) some =
        over_domain p V v d
        (subst (λ (ws : List Value). Contains ws v) (sym some) (member_first v vs)) x e
