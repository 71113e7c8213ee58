-- Each instruction does the same by numbers as by names.
use Rattle.std.proofs.Common.{ℕ, zero, suc, ◌≡◌, ◌<◌, ◌+◌, ◌%◌, ◌^◌, ◌-◌, inl, inr, Bool, true, false, not, IsTrue, List, [], length, get_or, AllPairs, Some, None, option_map, if◌then◌else◌, slice_index_or, slice_set, nat_eq, nat_lt, bytes_eq, bit_xor, bit_or, bit_and, refl, sym, ap, subst, ◌∙◌, arith, eqb-true, eq-eqb, is_lt}
use Rattle.std.proofs.lemmas.Bool.{cases_lt}
use Rattle.std.proofs.lemmas.Slice.Eq.{bytes_eq-Decides}
use Rattle.text_values.specs.declared.instruction.Operation.{Operation}
use Rattle.text_values.specs.declared.instruction.Operation.TheVariants as operations
use Rattle.text_values.specs.declared.instruction.BranchCondition.{BranchCondition}
use Rattle.text_values.specs.declared.instruction.BranchCondition.TheVariants as when
use Rattle.text_values.specs.declared.instruction.Instruction as text
use Rattle.text_values.specs.declared.instruction.Instruction.TheVariants as does
use Rattle.thread_runs.specs.declared.value.Value as numbered_value
use Rattle.thread_runs.specs.declared.value.Value.TheVariants as numbers
use Rattle.thread_runs.specs.declared.value.Comparison as numbered_comparison
use Rattle.thread_runs.specs.declared.value.Comparison.TheVariants as how
use Rattle.thread_runs.specs.declared.state.State as numbered_state
use Rattle.thread_runs.specs.Machine as numbered
use Rattle.ppc_lowering.specs.Lowering.{IsNameBefore, lowered_instruction, name_index}
use Rattle.meaning.specs.Names.{Name, is_name_before}
use Rattle.meaning.specs.Machine as named
use Rattle.meaning.specs.Machine.{Value, Number, Address, NoValue, Comparison, State}
use Rattle.meaning.proofs.Orders.{name_asymmetric}
use Rattle.meaning_executions.specs.Values.{IsSameValue, number, address, nothing, AreSameValues, none, more, comparison_by_name, IsSameState, AreOneToOne}
use Rattle.meaning_executions.specs.Instructions as told
use Rattle.meaning_executions.specs.Instructions.{DoesSame}

-- two numbers of locations are one where their names are
abbrev pub AreApart : List Name → Type 0
AreApart names =
    (k l : ℕ) → k < length names → l < length names
    → bytes_eq (get_or names k []) (get_or names l []) ≡ nat_eq k l

names_differ : (names : List Name) → AllPairs IsNameBefore names → (k l : ℕ) → k < l → l < length names
    → get_or names k [] ≡ get_or names l [] → ⊥
names_differ names rising k l less lt same =
    let first : Name = get_or names k [] in
    let before : IsTrue (is_name_before first first) =
    subst (λ (n : Name). IsTrue (is_name_before first n)) (sym same)
    (ap is_lt (rising k l [] less lt)) in
    name_asymmetric first first before before

one_number : (names : List Name) → AllPairs IsNameBefore names → (k l : ℕ) → k < length names
    → l < length names → get_or names k [] ≡ get_or names l [] → k ≡ l
one_number names rising k l below under same = elim (cases_lt k l) [
  | inl less ↦ absurd (names_differ names rising k l less under same)
  | inr le ↦ elim (cases_lt l k) [
    | inl less ↦ absurd (names_differ names rising l k less below (sym same))
    | inr ge ↦ omega arith
  ]
]

-- two tests agree where each gives the other
pub agree : (a b : Bool) → (a ≡ true → b ≡ true) → (b ≡ true → a ≡ true) → a ≡ b
agree true b to from = sym (to refl)
agree false true to from = from refl
agree false false to from = refl

pub apart : (names : List Name) → AllPairs IsNameBefore names → AreApart names
apart names rising k l below under =
    agree (bytes_eq (get_or names k []) (get_or names l [])) (nat_eq k l)
    (λ h. eq-eqb k l (one_number names rising k l below under
    ((bytes_eq-Decides (get_or names k []) (get_or names l [])).0 h)))
    (λ h. (bytes_eq-Decides (get_or names k []) (get_or names l [])).1
    (ap (λ (m : ℕ). get_or names m []) (eqb-true k l h)))

-- ---- Comparisons

taken : (c : BranchCondition) (h : numbered_comparison.Comparison)
    → numbered.is_taken c h ≡ named.is_taken c (comparison_by_name h)
taken when.Equal how.Less = refl
taken when.Equal how.Equal = refl
taken when.Equal how.Greater = refl
taken when.Equal how.Unlike = refl
taken when.NotEqual how.Less = refl
taken when.NotEqual how.Equal = refl
taken when.NotEqual how.Greater = refl
taken when.NotEqual how.Unlike = refl
taken when.Less how.Less = refl
taken when.Less how.Equal = refl
taken when.Less how.Greater = refl
taken when.Less how.Unlike = refl
taken when.Greater how.Less = refl
taken when.Greater how.Equal = refl
taken when.Greater how.Greater = refl
taken when.Greater how.Unlike = refl
taken when.LessOrEqual how.Less = refl
taken when.LessOrEqual how.Equal = refl
taken when.LessOrEqual how.Greater = refl
taken when.LessOrEqual how.Unlike = refl
taken when.GreaterOrEqual how.Less = refl
taken when.GreaterOrEqual how.Equal = refl
taken when.GreaterOrEqual how.Greater = refl
taken when.GreaterOrEqual how.Unlike = refl

senseless : (c : BranchCondition) (h : numbered_comparison.Comparison)
    → numbered.is_senseless c h ≡ named.lacks_order c (comparison_by_name h)
senseless when.Equal how.Less = refl
senseless when.Equal how.Equal = refl
senseless when.Equal how.Greater = refl
senseless when.Equal how.Unlike = refl
senseless when.NotEqual how.Less = refl
senseless when.NotEqual how.Equal = refl
senseless when.NotEqual how.Greater = refl
senseless when.NotEqual how.Unlike = refl
senseless when.Less how.Less = refl
senseless when.Less how.Equal = refl
senseless when.Less how.Greater = refl
senseless when.Less how.Unlike = refl
senseless when.Greater how.Less = refl
senseless when.Greater how.Equal = refl
senseless when.Greater how.Greater = refl
senseless when.Greater how.Unlike = refl
senseless when.LessOrEqual how.Less = refl
senseless when.LessOrEqual how.Equal = refl
senseless when.LessOrEqual how.Greater = refl
senseless when.LessOrEqual how.Unlike = refl
senseless when.GreaterOrEqual how.Less = refl
senseless when.GreaterOrEqual how.Equal = refl
senseless when.GreaterOrEqual how.Greater = refl
senseless when.GreaterOrEqual how.Unlike = refl

which : (a b : Bool)
    → comparison_by_name (if a then how.Equal else if b then how.Less else how.Greater)
    ≡ (if a then named.Equal else if b then named.Less else named.Greater)
which true b = refl
which false true = refl
which false false = refl

alike : (a : Bool)
    → comparison_by_name (if a then how.Equal else how.Unlike)
    ≡ (if a then named.Equal else named.Unlike)
alike true = refl
alike false = refl

-- ---- Loads and branches

pub loading : (labels : List Name) (i : text.Instruction)
    → numbered.is_load (lowered_instruction labels i) ≡ named.is_load i
loading labels (does.LoadImmediate d n) = refl
loading labels (does.Move d a) = refl
loading labels (does.AddImmediate d a n) = refl
loading labels (does.Compute o d a b) = refl
loading labels (does.Load d a) = refl
loading labels (does.LoadIndexed d a b) = refl
loading labels (does.Store d a) = refl
loading labels (does.StoreIndexed d a b) = refl
loading labels (does.Compare a b) = refl
loading labels (does.CompareImmediate a n) = refl
loading labels (does.BranchIf c l) = refl
loading labels (does.Branch l) = refl
loading labels (does.Fence f) = refl

pub branching : (labels : List Name) (i : text.Instruction)
    → numbered.is_branch (lowered_instruction labels i) ≡ named.is_branch i
branching labels (does.LoadImmediate d n) = refl
branching labels (does.Move d a) = refl
branching labels (does.AddImmediate d a n) = refl
branching labels (does.Compute o d a b) = refl
branching labels (does.Load d a) = refl
branching labels (does.LoadIndexed d a b) = refl
branching labels (does.Store d a) = refl
branching labels (does.StoreIndexed d a b) = refl
branching labels (does.Compare a b) = refl
branching labels (does.CompareImmediate a n) = refl
branching labels (does.BranchIf c l) = refl
branching labels (does.Branch l) = refl
branching labels (does.Fence f) = refl

-- ---- Operations

pub cancelled : (o : Operation) (a b : ℕ) → numbered.cancels o a b ≡ named.cancels o a b
cancelled operations.Add a b = refl
cancelled operations.SubtractFrom a b = refl
cancelled operations.Xor a b = refl
cancelled operations.Or a b = refl
cancelled operations.And a b = refl

-- ---- Values

abbrev number_in : Value → ℕ
number_in (Number n) = n
number_in _ = 0

abbrev location_in : Value → Name
location_in (Address l) = l
location_in _ = []

module _ (names : List Name) (are_apart : AreApart names) where
  either : (b : Bool) {v v' : numbered_value.Value} {w w' : Value} → IsSameValue names v w
      → IsSameValue names v' w' → IsSameValue names (if b then v else v') (if b then w else w')
  either true h g = h
  either false h g = g

  pub same_sum : {v v' : numbered_value.Value} {w w' : Value} → IsSameValue names v w
      → IsSameValue names v' w' → IsSameValue names (numbered.sum_of v v') (named.sum_of w w')
  same_sum (number m) (number n) = number ((m + n) % 2 ^ 32)
  same_sum (number m) (address l lt) = either (nat_eq m 0) (address l lt) nothing
  same_sum (number m) nothing = nothing
  same_sum (address k lt) (number n) = either (nat_eq n 0) (address k lt) nothing
  same_sum (address k lt) (address l under) = nothing
  same_sum (address k lt) nothing = nothing
  same_sum nothing (number n) = nothing
  same_sum nothing (address l lt) = nothing
  same_sum nothing nothing = nothing

  zeroed : (k l : ℕ) → k < length names → l < length names
      → IsSameValue names (if nat_eq k l then numbers.Number 0 else numbers.NoValue)
      (named.zero_if_same (get_or names k []) (get_or names l []))
  zeroed k l lt under =
      subst
      (λ (b : Bool). IsSameValue names (if nat_eq k l then numbers.Number 0 else numbers.NoValue)
      (if b then Number 0 else NoValue))
      (sym (are_apart k l lt under)) (either (nat_eq k l) (number 0) nothing)

  same_difference : {v v' : numbered_value.Value} {w w' : Value} → IsSameValue names v w
      → IsSameValue names v' w'
      → IsSameValue names (numbered.difference_of v v') (named.difference_of w w')
  same_difference (number m) (number n) = number ((n + (2 ^ 32 - m)) % 2 ^ 32)
  same_difference (address k lt) (address l under) = zeroed k l lt under
  same_difference (number m) (address l lt) = nothing
  same_difference (number m) nothing = nothing
  same_difference (address k lt) (number n) = nothing
  same_difference (address k lt) nothing = nothing
  same_difference nothing (number n) = nothing
  same_difference nothing (address l lt) = nothing
  same_difference nothing nothing = nothing

  same_exclusive : {v v' : numbered_value.Value} {w w' : Value} → IsSameValue names v w
      → IsSameValue names v' w'
      → IsSameValue names (numbered.exclusive_of v v') (named.exclusive_or_of w w')
  same_exclusive (number m) (number n) = number (bit_xor m n)
  same_exclusive (address k lt) (address l under) = zeroed k l lt under
  same_exclusive (number m) (address l lt) = nothing
  same_exclusive (number m) nothing = nothing
  same_exclusive (address k lt) (number n) = nothing
  same_exclusive (address k lt) nothing = nothing
  same_exclusive nothing (number n) = nothing
  same_exclusive nothing (address l lt) = nothing
  same_exclusive nothing nothing = nothing

  same_disjunction : {v v' : numbered_value.Value} {w w' : Value} → IsSameValue names v w
      → IsSameValue names v' w'
      → IsSameValue names (numbered.disjunction_of v v') (named.bitwise_of bit_or w w')
  same_disjunction (number m) (number n) = number (bit_or m n)
  same_disjunction (address k lt) (address l under) = nothing
  same_disjunction (number m) (address l lt) = nothing
  same_disjunction (number m) nothing = nothing
  same_disjunction (address k lt) (number n) = nothing
  same_disjunction (address k lt) nothing = nothing
  same_disjunction nothing (number n) = nothing
  same_disjunction nothing (address l lt) = nothing
  same_disjunction nothing nothing = nothing

  same_conjunction : {v v' : numbered_value.Value} {w w' : Value} → IsSameValue names v w
      → IsSameValue names v' w'
      → IsSameValue names (numbered.conjunction_of v v') (named.bitwise_of bit_and w w')
  same_conjunction (number m) (number n) = number (bit_and m n)
  same_conjunction (address k lt) (address l under) = nothing
  same_conjunction (number m) (address l lt) = nothing
  same_conjunction (number m) nothing = nothing
  same_conjunction (address k lt) (number n) = nothing
  same_conjunction (address k lt) nothing = nothing
  same_conjunction nothing (number n) = nothing
  same_conjunction nothing (address l lt) = nothing
  same_conjunction nothing nothing = nothing

  same_result : (o : Operation) {v v' : numbered_value.Value} {w w' : Value}
      → IsSameValue names v w → IsSameValue names v' w'
      → IsSameValue names (numbered.operation_value o v v') (named.result_of o w w')
  same_result operations.Add h g = same_sum h g
  same_result operations.SubtractFrom h g = same_difference h g
  same_result operations.Xor h g = same_exclusive h g
  same_result operations.Or h g = same_disjunction h g
  same_result operations.And h g = same_conjunction h g

  same_comparison : {v v' : numbered_value.Value} {w w' : Value} → IsSameValue names v w
      → IsSameValue names v' w'
      → comparison_by_name (numbered.comparison_of v v') ≡ named.comparison_of w w'
  same_comparison (number m) (number n) =
      which (nat_eq m n) (nat_lt (numbered.offset m) (numbered.offset n))
  same_comparison (address k lt) (address l under) =
      alike (nat_eq k l)
      ∙ ap (λ (b : Bool). if b then named.Equal else named.Unlike) (sym (are_apart k l lt under))
  same_comparison (number m) (address l lt) = refl
  same_comparison (number m) nothing = refl
  same_comparison (address k lt) (number n) = refl
  same_comparison (address k lt) nothing = refl
  same_comparison nothing (number n) = refl
  same_comparison nothing (address l lt) = refl
  same_comparison nothing nothing = refl

  named_once : {v : numbered_value.Value} {w x : Value} → IsSameValue names v w
      → IsSameValue names v x → w ≡ x
  named_once (number m) (number n) = refl
  named_once (address k lt) (address l under) = refl
  named_once nothing nothing = refl

  numbered_once : {v x : numbered_value.Value} {w y : Value} → IsSameValue names v w
      → IsSameValue names x y → w ≡ y → v ≡ x
  numbered_once (number m) (number n) e =
      ap (λ (z : Value). numbers.Number (number_in z)) e
  numbered_once (address k lt) (address l under) e =
      ap numbers.Address (eqb-true k l
      (sym (are_apart k l lt under)
      ∙ (bytes_eq-Decides (get_or names k []) (get_or names l [])).1
      (ap (λ (z : Value). location_in z) e)))
  numbered_once nothing nothing e = refl
  numbered_once (number m) (address l under) e = absurd cc
  numbered_once (number m) nothing e = absurd cc
  numbered_once (address k lt) (number n) e = absurd cc
  numbered_once (address k lt) nothing e = absurd cc
  numbered_once nothing (number n) e = absurd cc
  numbered_once nothing (address l under) e = absurd cc

  pub one_to_one : AreOneToOne names
  one_to_one = record {
    by_name = λ v w x h g. named_once h g;
    by_number = λ v x w h g. numbered_once h g refl;
  }

  same_is_value : {v : numbered_value.Value} {w : Value} → IsSameValue names v w
      → numbered.is_value v ≡ named.is_value w
  same_is_value (number n) = refl
  same_is_value (address k lt) = refl
  same_is_value nothing = refl

  same_is_address : {v : numbered_value.Value} {w : Value} → IsSameValue names v w
      → numbered.is_address v ≡ named.is_address w
  same_is_address (number n) = refl
  same_is_address (address k lt) = refl
  same_is_address nothing = refl

  -- ---- Registers

  pub held : {vs : List numbered_value.Value} {ws : List Value} → AreSameValues names vs ws
      → (r : ℕ)
      → IsSameValue names (slice_index_or vs r (numbers.Number 0))
      (slice_index_or ws r (Number 0))
  held none r = number 0
  held (more h hs) zero = h
  held (more h hs) (suc r) = held hs r

  written : {vs : List numbered_value.Value} {ws : List Value} → AreSameValues names vs ws
      → (d : ℕ) {v : numbered_value.Value} {w : Value} → IsSameValue names v w
      → AreSameValues names (slice_set vs d v) (slice_set ws d w)
  written none d g = none
  written (more h hs) zero g = more g hs
  written (more h hs) (suc d) g = more h (written hs d g)

  -- ---- Instructions

  module _ (labels : List Name) (s : numbered_state.State) (u : State)
      (same : IsSameState names s u) where
    at : (r : ℕ) → IsSameValue names (numbered.register s r) (named.register u r)
    at r = held same.registers r

    computed : (o : Operation) (a b : ℕ)
        → IsSameValue names (numbered.operated o a b s) (named.result_in u o a b)
    computed o a b =
        subst
        (λ (c : Bool). IsSameValue names
        (if c then numbers.Number 0
        else numbered.operation_value o (numbered.register s a) (numbered.register s b))
        (named.result_in u o a b))
        (sym (cancelled o a b))
        (either (named.cancels o a b) (number 0) (same_result o (at a) (at b)))

    with_value : (d : ℕ) {v : numbered_value.Value} {w : Value} → IsSameValue names v w
        → IsSameState names (numbered.with_register s d v) (named.with_register u d w)
    with_value d h = record { registers = written same.registers d h; compared = same.compared }

    with_comparison : {v v' : numbered_value.Value} {w w' : Value} → IsSameValue names v w
        → IsSameValue names v' w'
        → IsSameState names (record s { compared = numbered.comparison_of v v' })
        (record u { compared = named.comparison_of w w' })
    with_comparison h g =
        record { registers = same.registers; compared = same_comparison h g }

    after : (i : text.Instruction) (v : numbered_value.Value) (w : Value) → IsSameValue names v w
        → IsSameState names (numbered.state_after (lowered_instruction labels i) v s)
        (named.state_after i w u)
    after (does.LoadImmediate d n) v w h = with_value d (number _)
    after (does.Move d a) v w h = with_value d (at a)
    after (does.AddImmediate d a n) v w h = with_value d (same_sum (at a) (number _))
    after (does.Compute o d a b) v w h = with_value d (computed o a b)
    after (does.Load d a) v w h = with_value d h
    after (does.LoadIndexed d a b) v w h = with_value d h
    after (does.Store d a) v w h = same
    after (does.StoreIndexed d a b) v w h = same
    after (does.Compare a b) v w h = with_comparison (at a) (at b)
    after (does.CompareImmediate a n) v w h = with_comparison (at a) (number _)
    after (does.BranchIf c l) v w h = same
    after (does.Branch l) v w h = same
    after (does.Fence f) v w h = same

    faulty : (i : text.Instruction)
        → numbered.is_fault (lowered_instruction labels i) s ≡ named.is_fault i u
    faulty (does.LoadImmediate d n) = refl
    faulty (does.Move d a) = refl
    faulty (does.AddImmediate d a n) = ap not (same_is_value (same_sum (at a) (number _)))
    faulty (does.Compute o d a b) = ap not (same_is_value (computed o a b))
    faulty (does.Load d a) = ap not (same_is_address (at a))
    faulty (does.LoadIndexed d a b) = ap not (same_is_address (same_sum (at a) (at b)))
    faulty (does.Store d a) = ap not (same_is_address (at a))
    faulty (does.StoreIndexed d a b) = ap not (same_is_address (same_sum (at a) (at b)))
    faulty (does.Compare a b) = refl
    faulty (does.CompareImmediate a n) = refl
    faulty (does.BranchIf c l) =
        senseless c s.compared ∙ ap (λ (k : Comparison). named.lacks_order c k) same.compared
    faulty (does.Branch l) = refl
    faulty (does.Fence f) = refl

    taking : (i : text.Instruction)
        → numbered.takes_branch (lowered_instruction labels i) s ≡ named.is_taken_in u i
    taking (does.LoadImmediate d n) = refl
    taking (does.Move d a) = refl
    taking (does.AddImmediate d a n) = refl
    taking (does.Compute o d a b) = refl
    taking (does.Load d a) = refl
    taking (does.LoadIndexed d a b) = refl
    taking (does.Store d a) = refl
    taking (does.StoreIndexed d a b) = refl
    taking (does.Compare a b) = refl
    taking (does.CompareImmediate a n) = refl
    taking (does.BranchIf c l) =
        taken c s.compared ∙ ap (λ (k : Comparison). named.is_taken c k) same.compared
    taking (does.Branch l) = refl
    taking (does.Fence f) = refl

    onward : (l : Name) (b : Bool)
        → (if b then Some (name_index labels l) else None)
        ≡ option_map (λ n. name_index labels n) (if b then Some l else None)
    onward l true = refl
    onward l false = refl

    going : (i : text.Instruction) (way : Bool)
        → numbered.branch_target (lowered_instruction labels i) way
        ≡ option_map (λ l. name_index labels l) (named.target i way)
    going (does.LoadImmediate d n) way = refl
    going (does.Move d a) way = refl
    going (does.AddImmediate d a n) way = refl
    going (does.Compute o d a b) way = refl
    going (does.Load d a) way = refl
    going (does.LoadIndexed d a b) way = refl
    going (does.Store d a) way = refl
    going (does.StoreIndexed d a b) way = refl
    going (does.Compare a b) way = refl
    going (does.CompareImmediate a n) way = refl
    going (does.BranchIf c l) way = onward l way
    going (does.Branch l) way = refl
    going (does.Fence f) way = refl

    doing : (i : text.Instruction) (v : numbered_value.Value) (w : Value) → IsSameValue names v w
        → told.AreEventsOf names (record { instruction = i; before = u; loaded = w })
        (numbered.event_of (lowered_instruction labels i) v s)
    doing (does.LoadImmediate d n) v w h = told.nothing refl
    doing (does.Move d a) v w h = told.nothing refl
    doing (does.AddImmediate d a n) v w h = told.nothing refl
    doing (does.Compute o d a b) v w h = told.nothing refl
    doing (does.Load d a) v w h = told.loads refl (at a) h
    doing (does.LoadIndexed d a b) v w h = told.loads refl (same_sum (at a) (at b)) h
    doing (does.Store d a) v w h = told.stores refl (at a) (at d)
    doing (does.StoreIndexed d a b) v w h = told.stores refl (same_sum (at a) (at b)) (at d)
    doing (does.Compare a b) v w h = told.nothing refl
    doing (does.CompareImmediate a n) v w h = told.nothing refl
    doing (does.BranchIf c l) v w h = told.nothing refl
    doing (does.Branch l) v w h = told.nothing refl
    doing (does.Fence f) v w h = told.fences refl

    pub does_same : (i : text.Instruction) → DoesSame names labels i s u
    does_same i = record {
      fault = faulty i;
      load = loading labels i;
      branch = branching labels i;
      taken = taking i;
      goes_on = going i;
      state = after i;
      events = doing i;
    }
