-- The addresses in a run of a test are numbers of its locations.
use Rattle.std.proofs.Common.{ℕ, zero, suc, ◌≡◌, ◌<◌, Bool, true, false, if◌then◌else◌, nat_eq, List, [], ◌∷◌, ◌++◌, length, get_or, replicate, Option, Some, None, refl, ap, sym, subst, ◌∙◌, inl, inr, arith, Contains, All, vec_len}
use Rattle.std.specs.Prelude.{slice_set}
use Rattle.std.specs.List.{flat_map}
use Rattle.std.proofs.lemmas.Bool.{cases_eq, cases_lt}
use Rattle.std.proofs.lemmas.List.{get_or_past, get_or-set_same, get_or-set_other, get_or-replicate, length-set, get_or_default}
use Rattle.std.proofs.lemmas.List.Elements.{All-head, All-tail, Contains-append_left, Contains-append_right, Contains-push_cases}
use Rattle.std.proofs.lemmas.Option.{same_Some}
use Rattle.text_values.specs.declared.instruction.Operation.{Operation}
use Rattle.text_values.specs.declared.instruction.Operation.TheVariants.{Add, SubtractFrom, Xor, Or, And}
use Rattle.text_values.specs.declared.test.Test.{Test}
use Rattle.text_values.specs.declared.test.Place.{Place}
use Rattle.text_values.specs.declared.test.InitEntry.{InitEntry}
use Rattle.text_values.specs.declared.test.Value as written
use Rattle.text_values.specs.declared.test.Value.TheVariants as values
use Rattle.text_values.specs.TestValue.{formula_of}
use Rattle.thread_runs.specs.declared.value.Value.{Value}
use Rattle.thread_runs.specs.declared.value.Value.TheVariants.{Number, Address, NoValue}
use Rattle.thread_runs.specs.declared.instruction.Event as run
use Rattle.thread_runs.specs.declared.instruction.Event.TheVariants as run_event
use Rattle.thread_runs.specs.declared.instruction.Instruction.{Instruction}
use Rattle.thread_runs.specs.declared.instruction.Instruction.TheVariants.{Immediate, Move, AddImmediate, Operate, Load, LoadIndexed, Store, StoreIndexed, Compare, CompareImmediate, Branch, Jump, Fence}
use Rattle.thread_runs.specs.declared.instruction.Line.{Line}
use Rattle.thread_runs.specs.declared.instruction.Line.TheVariants.{Label, Does}
use Rattle.thread_runs.specs.declared.instruction.Program.{Program}
use Rattle.thread_runs.specs.declared.state.State.{State}
use Rattle.thread_runs.specs.Machine.{register, with_register, sum_of, operation_value, operated, cancels, state_after, event_of, is_fault, is_load, is_branch, takes_branch}
use Rattle.thread_runs.specs.Runs.{Walk, RunOutcome, Thread, InDomain, walk_at, walk_after, walk_past, ends, after_load, after_instruction, after_line, run_from, free_ends, after_free_instruction, after_free_line, free_from}
use Rattle.thread_runs.specs.AllRuns.{thread_of, first_of}
use Rattle.ppc_lowering.proofs.Starting.{number_at}
use Rattle.ppc_lowering.specs.Domain.{threads_from, threads_of}
use Rattle.ppc_lowering.specs.Lowering.{IsProgram, Starts, AreRegisters, name_index, lowered_value, test_names, entry_names, place_names, value_names, formula_names}
use Rattle.candidates.proofs.Elements.{member_first, member_cases, no_member, joined_there}

-- the value is no address of a location past the first n
abbrev pub Below : ℕ → Value → Type 0
Below n (Address l) = l < n
Below n _ = Unit {0}

module _ (n : ℕ) where
  abbrev pub EventBelow : run.Event → Type 0
  EventBelow (run_event.Load a v) = Below n a × Below n v
  EventBelow (run_event.Store a v) = Below n a × Below n v
  EventBelow (run_event.Fence f) = Unit {0}

  abbrev pub AllBelow : List run.Event → Type 0
  AllBelow [] = Unit {0}
  AllBelow (e ∷ es) = EventBelow e × AllBelow es

  both_below : (es fs : List run.Event) → AllBelow es → AllBelow fs → AllBelow (es ++ fs)
  both_below [] fs h k = k
  both_below (e ∷ es) fs h k = (h.0, both_below es fs h.1 k)

  pub one_below : (es : List run.Event) (e : run.Event) → AllBelow es → Contains es e → EventBelow e
  one_below [] e h c = absurd (no_member e c)
  one_below (x ∷ es) e h c =
      elim (member_cases x es e c) [
        | inl same ↦ subst EventBelow same h.0
        | inr d ↦ one_below es e
            h.1 d
      ]

  -- what instructions make of values
  either_below : (b : Bool) (v w : Value) → Below n v → Below n w → Below n (if b then v else w)
  either_below true v w h k = h
  either_below false v w h k = k

  sum_below : (v w : Value) → Below n v → Below n w → Below n (sum_of v w)
  sum_below (Number m) (Number k) h g = tt
  sum_below (Number m) (Address l) h g = either_below (nat_eq m 0) (Address l) NoValue g tt
  sum_below (Number m) NoValue h g = tt
  sum_below (Address l) (Number m) h g = either_below (nat_eq m 0) (Address l) NoValue h tt
  sum_below (Address l) (Address k) h g = tt
  sum_below (Address l) NoValue h g = tt
  sum_below NoValue (Number m) h g = tt
  sum_below NoValue (Address l) h g = tt
  sum_below NoValue NoValue h g = tt

  outcome_below : (o : Operation) (v w : Value) → Below n v → Below n w → Below n (operation_value o v w)
  outcome_below Add v w h g = sum_below v w h g
  outcome_below SubtractFrom (Number m) (Number k) h g = tt
  outcome_below SubtractFrom (Number m) (Address l) h g = tt
  outcome_below SubtractFrom (Number m) NoValue h g = tt
  outcome_below SubtractFrom (Address l) (Number m) h g = tt
  outcome_below SubtractFrom (Address l) (Address k) h g =
      either_below (nat_eq l k) (Number 0) NoValue tt tt
  outcome_below SubtractFrom (Address l) NoValue h g = tt
  outcome_below SubtractFrom NoValue w h g = tt
  outcome_below Xor (Number m) (Number k) h g = tt
  outcome_below Xor (Number m) (Address l) h g = tt
  outcome_below Xor (Number m) NoValue h g = tt
  outcome_below Xor (Address l) (Number m) h g = tt
  outcome_below Xor (Address l) (Address k) h g = either_below (nat_eq l k) (Number 0) NoValue tt tt
  outcome_below Xor (Address l) NoValue h g = tt
  outcome_below Xor NoValue w h g = tt
  outcome_below Or (Number m) (Number k) h g = tt
  outcome_below Or (Number m) (Address l) h g = tt
  outcome_below Or (Number m) NoValue h g = tt
  outcome_below Or (Address l) w h g = tt
  outcome_below Or NoValue w h g = tt
  outcome_below And (Number m) (Number k) h g = tt
  outcome_below And (Number m) (Address l) h g = tt
  outcome_below And (Number m) NoValue h g = tt
  outcome_below And (Address l) w h g = tt
  outcome_below And NoValue w h g = tt

  abbrev pub RegistersBelow : State → Type 0
  RegistersBelow s = (r : ℕ) → Below n (register s r)

  put_below : (s : State) (d : ℕ) (v : Value) → Below n v → RegistersBelow s
      → RegistersBelow (with_register s d v)
  put_below s d v below h r = elim (cases_eq r d) [
    | inl same ↦ elim (cases_lt r (length s.registers)) [
      | inl lt ↦ subst (λ (w : Value). Below n w)
          (sym (ap (λ (k : ℕ). get_or (slice_set s.registers k v) r (Number 0)) (sym same)
          ∙ get_or-set_same s.registers r v (Number 0) lt)) below
      | inr ge ↦ subst (λ (w : Value). Below n w)
          (sym (get_or_past (slice_set s.registers d v) r (Number 0)
          (omega (arith, ge, length-set {A = Value})))) tt
    ]
    | inr other ↦ subst (λ (w : Value). Below n w)
        (sym (get_or-set_other s.registers d r v (Number 0) other)) (h r)
  ]

  operated_below : (o : Operation) (a b : ℕ) (s : State) → RegistersBelow s
      → Below n (operated o a b s)
  operated_below o a b s h =
      either_below (cancels o a b) (Number 0) (operation_value o (register s a) (register s b)) tt
      (outcome_below o (register s a) (register s b) (h a) (h b))

  after_below : (i : Instruction) (v : Value) (s : State) → (is_load i ≡ true → Below n v)
      → RegistersBelow s → RegistersBelow (state_after i v s)
  after_below (Immediate d m) v s loaded h = put_below s d (Number m) tt h
  after_below (Move d a) v s loaded h = put_below s d (register s a) (h a) h
  after_below (AddImmediate d a m) v s loaded h =
      put_below s d (sum_of (register s a) (Number m))
      (sum_below (register s a) (Number m) (h a) tt) h
  after_below (Operate o d a b) v s loaded h =
      put_below s d (operated o a b s) (operated_below o a b s h) h
  after_below (Load d a) v s loaded h = put_below s d v (loaded refl) h
  after_below (LoadIndexed d a b) v s loaded h = put_below s d v (loaded refl) h
  after_below (Store d a) v s loaded h = h
  after_below (StoreIndexed d a b) v s loaded h = h
  after_below (Compare a b) v s loaded h = h
  after_below (CompareImmediate a m) v s loaded h = h
  after_below (Branch c l) v s loaded h = h
  after_below (Jump l) v s loaded h = h
  after_below (Fence f) v s loaded h = h

  event_below : (i : Instruction) (v : Value) (s : State) → (is_load i ≡ true → Below n v)
      → RegistersBelow s → AllBelow (event_of i v s)
  event_below (Immediate d m) v s loaded h = tt
  event_below (Move d a) v s loaded h = tt
  event_below (AddImmediate d a m) v s loaded h = tt
  event_below (Operate o d a b) v s loaded h = tt
  event_below (Load d a) v s loaded h = ((h a, loaded refl), tt)
  event_below (LoadIndexed d a b) v s loaded h =
      ((sum_below (register s a) (register s b) (h a) (h b), loaded refl), tt)
  event_below (Store d a) v s loaded h = ((h a, h d), tt)
  event_below (StoreIndexed d a b) v s loaded h =
      ((sum_below (register s a) (register s b) (h a) (h b), h d), tt)
  event_below (Compare a b) v s loaded h = tt
  event_below (CompareImmediate a m) v s loaded h = tt
  event_below (Branch c l) v s loaded h = tt
  event_below (Jump l) v s loaded h = tt
  event_below (Fence f) v s loaded h = (tt, tt)

  -- so it stays in a run and in a free run
  pub record IsKept (w : Walk) : Type 0 where
    pub registers : RegistersBelow w.state
    pub events : AllBelow w.events

  kept_more : (i : Instruction) (b : Bool) (v : Value) (w : Walk) → (is_load i ≡ true → Below n v)
      → IsKept w → IsKept (walk_after i b v w)
  kept_more i b v w loaded h = record {
    registers = after_below i v w.state loaded h.registers;
    events =
        both_below w.events (event_of i v w.state) h.events
        (event_below i v w.state loaded h.registers);
  }

  kept_passing : (x : Line) (l : ℕ) (w : Walk) → IsKept w → IsKept (walk_past x l w)
  kept_passing x l w h = record { registers = h.registers; events = h.events }

  ends_kept : (f : Bool) (w : Walk) (vs : List Value) (o : RunOutcome) → ends f w vs ≡ Some o
      → IsKept w → IsKept o.walk
  ends_kept f w [] o e h = subst (λ (q : RunOutcome). IsKept q.walk) (same_Some _ _ e) h
  ends_kept f w (v ∷ vs) o e h = absurd cc

  module _ (go : Walk → List Value → Option RunOutcome)
      (rest : (w : Walk) (vs : List Value) (o : RunOutcome) → go w vs ≡ Some o → All (Below n) vs
      → IsKept w → IsKept o.walk) where
    supplied_kept : (l : Bool) (i : Instruction) (b : Bool) (w : Walk) (vs : List Value)
        (o : RunOutcome) → after_load l i b go w vs ≡ Some o → All (Below n) vs → IsKept w
        → IsKept o.walk
    supplied_kept true i b w [] o e all h = absurd cc
    supplied_kept true i b w (v ∷ vs) o e all h =
        rest (walk_after i b v w) vs o e (All-tail (Below n) v vs all)
        (kept_more i b v w (λ _. All-head (Below n) v vs all) h)
    supplied_kept false i b w vs o e all h =
        rest (walk_after i b NoValue w) vs o e all (kept_more i b NoValue w (λ _. tt) h)

  abbrev Keeps : List Line → Type 0
  Keeps xs =
      (w : Walk) (vs : List Value) (o : RunOutcome) → run_from xs w vs ≡ Some o → All (Below n) vs
      → IsKept w → IsKept o.walk

  obeyed_kept : (xs : List Line) → Keeps xs
      → (f : Bool) (i : Instruction) (w : Walk) (vs : List Value) (o : RunOutcome)
      → after_instruction f i (run_from xs) w vs ≡ Some o → All (Below n) vs → IsKept w → IsKept o.walk
  obeyed_kept xs rest true i w vs o e all h = ends_kept true w vs o e h
  obeyed_kept xs rest false i w vs o e all h =
      supplied_kept (run_from xs) rest (is_load i) i (takes_branch i w.state) w vs o e all h

  line_kept : (xs : List Line) → Keeps xs
      → (s : Option ℕ) (x : Line) (w : Walk) (vs : List Value) (o : RunOutcome)
      → after_line s x (run_from xs) w vs ≡ Some o → All (Below n) vs → IsKept w → IsKept o.walk
  line_kept xs rest (Some l) x w vs o e all h =
      rest (walk_past x l w) vs o e all (kept_passing x l w h)
  line_kept xs rest None (Label m) w vs o e all h = rest w vs o e all h
  line_kept xs rest None (Does i) w vs o e all h =
      obeyed_kept xs rest (is_fault i w.state) i w vs o e all h

  pub run_kept : (xs : List Line) → Keeps xs
  run_kept [] w vs o e all h = ends_kept false w vs o e h
  run_kept (x ∷ xs) w vs o e all h = line_kept xs (run_kept xs) w.seeking x w vs o e all h

  abbrev KeepsFreely : List Line → Type 0
  KeepsFreely xs =
      (bs : List Bool) (w : Walk) (vs : List Value) (o : RunOutcome) → free_from xs w bs vs ≡ Some o
      → All (Below n) vs → IsKept w → IsKept o.walk

  free_end_kept : (w : Walk) (bs : List Bool) (vs : List Value) (o : RunOutcome)
      → free_ends w bs vs ≡ Some o → IsKept w → IsKept o.walk
  free_end_kept w [] vs o e h = ends_kept false w vs o e h
  free_end_kept w (b ∷ bs) vs o e h = absurd cc

  free_step_kept : (xs : List Line) → KeepsFreely xs
      → (b : Bool) (i : Instruction) (bs : List Bool) (w : Walk) (vs : List Value) (o : RunOutcome)
      → after_free_instruction b i (free_from xs) w bs vs ≡ Some o → All (Below n) vs → IsKept w
      → IsKept o.walk
  free_step_kept xs rest true i [] w vs o e all h = absurd cc
  free_step_kept xs rest true i (b ∷ bs) w vs o e all h =
      supplied_kept (λ u us. free_from xs u bs us) (rest bs) (is_load i) i b w vs o e all h
  free_step_kept xs rest false i bs w vs o e all h =
      supplied_kept (λ u us. free_from xs u bs us) (rest bs) (is_load i) i false w vs o e all h

  free_line_kept : (xs : List Line) → KeepsFreely xs
      → (s : Option ℕ) (x : Line) (bs : List Bool) (w : Walk) (vs : List Value) (o : RunOutcome)
      → after_free_line s x (free_from xs) w bs vs ≡ Some o → All (Below n) vs → IsKept w → IsKept o.walk
  free_line_kept xs rest (Some l) x bs w vs o e all h =
      rest bs (walk_past x l w) vs o e all (kept_passing x l w h)
  free_line_kept xs rest None (Label m) bs w vs o e all h = rest bs w vs o e all h
  free_line_kept xs rest None (Does i) bs w vs o e all h =
      free_step_kept xs rest (is_branch i) i bs w vs o e all h

  pub free_kept : (xs : List Line) → KeepsFreely xs
  free_kept [] bs w vs o e all h = free_end_kept w bs vs o e h
  free_kept (x ∷ xs) bs w vs o e all h =
      free_line_kept xs (free_kept xs) w.seeking x bs w vs o e all h

-- what a test holds at the start, and what its threads begin with
module _ (t : Test) (p : Program) (is : IsProgram t p) where
  abbrev pub many : ℕ
  many = length p.initial.items

  named_below : (name : List ℕ) → Contains (test_names t) name
      → name_index p.locations.items name < many
  named_below name there =
      let c : Contains p.locations.items name = (is.locations.exact name).1 there in
      let k : c.0 ≡ name_index p.locations.items (get_or p.locations.items c.0 []) = number_at p.locations.items c.0 is.locations.rising c.1 in
      let e : get_or p.locations.items c.0 [] ≡ name = get_or_default p.locations.items c.0 [] name c.1 ∙ c.2 in
      let f : name_index p.locations.items (get_or p.locations.items c.0 []) ≡ name_index p.locations.items name = ap (λ (m : List ℕ). name_index p.locations.items m) e in
      let lt : c.0 < length p.locations.items = c.1 in
      omega (arith, k, f, lt, is.initial.each_one)

  entry_below : (e : InitEntry) → Contains t.init.items e → (w : written.Value) → e.value ≡ w
      → Below many (lowered_value p.locations.items w)
  entry_below e there (values.Number m) at = tt
  entry_below e there (values.Address name) at =
      let own : Contains (entry_names e) name = Contains-append_right (place_names e.place) (value_names e.value) name (subst (λ (w : written.Value). Contains (value_names w) name) (sym at) (member_first name [])) in
      named_below name
      (Contains-append_left
      (flat_map entry_names t.init.items ++ formula_names (formula_of t.condition.proposition))
      (flat_map place_names t.observed.items) name
      (Contains-append_left (flat_map entry_names t.init.items)
      (formula_names (formula_of t.condition.proposition)) name
      (joined_there entry_names t.init.items e name there own)))

  starts_below : (q : Place) (v : Value) → Starts t.init.items q p.locations.items v → Below many v
  starts_below q v (inl h) =
      subst (λ (w : Value). Below many w) (sym h.2)
      (entry_below h.0
      (subst (λ (es : List InitEntry). Contains es h.0) (sym h.1.there)
      (Contains-append_right h.1.before (h.0 ∷ h.1.behind) h.0
      (member_first h.0 h.1.behind))) h.0.value refl)
  starts_below q v (inr h) = subst (λ (w : Value). Below many w) (sym h.1) tt

  pub initial_below : (v : Value) → Contains p.initial.items v → Below many v
  initial_below v c =
      let lt : c.0 < length p.initial.items = c.1 in
      subst (λ (w : Value). Below many w) (get_or_default p.initial.items c.0 NoValue v c.1 ∙ c.2)
      (starts_below _ (get_or p.initial.items c.0 NoValue) (is.initial.starts c.0
      (omega (arith, lt, is.initial.each_one))))

  file_below : (k : ℕ) (file : List Value) → AreRegisters t.init.items p.locations.items k file
      → (r : ℕ) → Below many (get_or file r (Number 0))
  file_below k file are r = elim (cases_lt r 32) [
    | inl lt ↦ subst (λ (w : Value). Below many w)
        (get_or_default file r NoValue (Number 0) (omega (arith, lt, are.each_one)))
        (starts_below _ (get_or file r NoValue) (are.starts r lt))
    | inr ge ↦ subst (λ (w : Value). Below many w)
        (sym (get_or_past file r (Number 0) (omega (arith, ge, are.each_one)))) tt
  ]

  zeros_below : (r : ℕ) → Below many (get_or (replicate 32 (Number 0)) r (Number 0))
  zeros_below r = elim (cases_lt r 32) [
    | inl lt ↦ subst (λ (w : Value). Below many w)
        (sym (get_or-replicate 32 r (Number 0) (Number 0) lt)) tt
    | inr ge ↦ subst (λ (w : Value). Below many w)
        (sym (get_or_past (replicate 32 (Number 0)) r (Number 0) ge)) tt
  ]

  first_below : (k : ℕ) → RegistersBelow many (first_of p k)
  first_below k r = elim (cases_lt k (length p.registers.items)) [
    | inl lt ↦
        subst (λ (file : List Value). Below many (get_or file r (Number 0)))
        (get_or_default p.registers.items k [] (replicate 32 (Number 0)) lt)
        (file_below k (get_or p.registers.items k [])
        (is.registers.starts k (omega (arith, lt, is.registers.each_one))) r)
    | inr ge ↦ subst (λ (file : List Value). Below many (get_or file r (Number 0)))
        (sym (get_or_past p.registers.items k (replicate 32 (Number 0)) ge)) (zeros_below r)
  ]

  thread_below : (k : ℕ) (th : Thread) → Contains (threads_from p k) th
      → RegistersBelow many th.first
  thread_below zero th c = absurd (no_member th c)
  thread_below (suc k) th c = elim (Contains-push_cases (threads_from p k) (thread_of p k) th c) [
    | inl d ↦ thread_below k th d
    | inr e ↦ subst (λ (x : Thread). RegistersBelow many x.first) e (first_below k)
  ]

  pub begins_kept : (th : Thread) → Contains (threads_of p) th → IsKept many (walk_at th.first)
  begins_kept th c = record { registers = thread_below (vec_len p.threads) th c; events = tt }

  -- so are the values of the domain
  pub domain_below : (k : ℕ) (v : Value) → InDomain p.initial.items (threads_of p) k v
      → Below many v
  domain_below zero v h = initial_below v h
  domain_below (suc k) v (inl h) = domain_below k v h
  domain_below (suc k) v (inr h) =
      let f = h.0 in
      let kept : IsKept many f.5.walk = free_kept many f.0.lines f.2 (walk_at f.0.first) f.3 f.5 f.6 (λ i d lt. domain_below k (get_or f.3 i d) (f.4 i d lt)) (begins_kept f.0 f.1) in
      (one_below many f.5.walk.events (run_event.Store f.7 v) kept.events f.8).1
