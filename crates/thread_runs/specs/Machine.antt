-- The machine of one thread: its state, and what each instruction does.
use Rattle.std.specs.Prelude.{ℕ, ◌+◌, ◌-◌, ◌%◌, ◌^◌, nat_eq, nat_lt, Bool, true, false, not, List, [], ◌∷◌, Option, Some, None, if◌then◌else◌, slice_index_or, slice_set, bit_xor, bit_or, bit_and}
use Rattle.thread_runs.specs.declared.value.Value.{Value}
use Rattle.thread_runs.specs.declared.value.Value.TheVariants.{Number, Address, NoValue}
use Rattle.thread_runs.specs.declared.value.Comparison.{Comparison}
use Rattle.thread_runs.specs.declared.value.Comparison.TheVariants as how
use Rattle.text_values.specs.declared.instruction.Operation.{Operation}
use Rattle.text_values.specs.declared.instruction.Operation.TheVariants.{Add, SubtractFrom, Xor, Or, And}
use Rattle.text_values.specs.declared.instruction.BranchCondition.{BranchCondition}
use Rattle.text_values.specs.declared.instruction.BranchCondition.TheVariants as when
use Rattle.thread_runs.specs.declared.instruction.Instruction.{Instruction}
use Rattle.thread_runs.specs.declared.instruction.Instruction.TheVariants.{Immediate, Move, AddImmediate, Operate, Load, LoadIndexed, Store, StoreIndexed, Compare, CompareImmediate, Branch, Jump, Fence}
pub use Rattle.thread_runs.specs.declared.state.State.{State}
use Rattle.thread_runs.specs.declared.instruction.Event.{Event}
use Rattle.thread_runs.specs.declared.instruction.Event.TheVariants as run_event

-- an operation; what would be a fault has no value
abbrev pub sum_of : Value → Value → Value
sum_of (Number m) (Number n) = Number ((m + n) % 2 ^ 32)
sum_of (Address l) (Number n) = if nat_eq n 0 then Address l else NoValue
sum_of (Number m) (Address l) = if nat_eq m 0 then Address l else NoValue
sum_of _ _ = NoValue

-- the second less the first
abbrev pub difference_of : Value → Value → Value
difference_of (Number m) (Number n) = Number ((n + (2 ^ 32 - m)) % 2 ^ 32)
difference_of (Address k) (Address l) = if nat_eq k l then Number 0 else NoValue
difference_of _ _ = NoValue

abbrev pub exclusive_of : Value → Value → Value
exclusive_of (Number m) (Number n) = Number (bit_xor m n)
exclusive_of (Address k) (Address l) = if nat_eq k l then Number 0 else NoValue
exclusive_of _ _ = NoValue

abbrev pub disjunction_of : Value → Value → Value
disjunction_of (Number m) (Number n) = Number (bit_or m n)
disjunction_of _ _ = NoValue

abbrev pub conjunction_of : Value → Value → Value
conjunction_of (Number m) (Number n) = Number (bit_and m n)
conjunction_of _ _ = NoValue

abbrev pub operation_value : Operation → Value → Value → Value
operation_value Add v w = sum_of v w
operation_value SubtractFrom v w = difference_of v w
operation_value Xor v w = exclusive_of v w
operation_value Or v w = disjunction_of v w
operation_value And v w = conjunction_of v w

-- an exclusive or, or a difference, of a register with itself
abbrev pub cancels : Operation → ℕ → ℕ → Bool
cancels SubtractFrom a b = nat_eq a b
cancels Xor a b = nat_eq a b
cancels _ a b = false

-- the signed order of numbers of 32 bits
abbrev pub offset : ℕ → ℕ
offset n = (n + 2 ^ 31) % 2 ^ 32

abbrev pub numbers_compared : ℕ → ℕ → Comparison
numbers_compared m n =
    if nat_eq m n then how.Equal else if nat_lt (offset m) (offset n) then how.Less else how.Greater

abbrev pub comparison_of : Value → Value → Comparison
comparison_of (Number m) (Number n) = numbers_compared m n
comparison_of (Address k) (Address l) = if nat_eq k l then how.Equal else how.Unlike
comparison_of _ _ = how.Unlike

-- whether the branch is taken
abbrev pub is_taken : BranchCondition → Comparison → Bool
is_taken when.Equal how.Equal = true
is_taken when.NotEqual how.Equal = false
is_taken when.NotEqual _ = true
is_taken when.Less how.Less = true
is_taken when.Greater how.Greater = true
is_taken when.LessOrEqual how.Less = true
is_taken when.LessOrEqual how.Equal = true
is_taken when.GreaterOrEqual how.Greater = true
is_taken when.GreaterOrEqual how.Equal = true
is_taken _ _ = false

-- whether the branch is a fault: an order was asked for where there is none
abbrev pub is_senseless : BranchCondition → Comparison → Bool
is_senseless when.Equal c = false
is_senseless when.NotEqual c = false
is_senseless _ how.Unlike = true
is_senseless _ _ = false

abbrev pub register : State → ℕ → Value
register s r = slice_index_or s.registers r (Number 0)

abbrev pub with_register : State → ℕ → Value → State
with_register s r v = record s { registers = slice_set s.registers r v }

-- the value that an instruction writes into a register; a load writes the value that it is given
abbrev pub operated : Operation → ℕ → ℕ → State → Value
operated o a b s = if cancels o a b then Number 0 else operation_value o (register s a) (register s b)

-- the state after the instruction, which has loaded the value if it is a load
abbrev pub state_after : Instruction → Value → State → State
state_after (Immediate d n) v s = with_register s d (Number n)
state_after (Move d a) v s = with_register s d (register s a)
state_after (AddImmediate d a n) v s = with_register s d (sum_of (register s a) (Number n))
state_after (Operate o d a b) v s = with_register s d (operated o a b s)
state_after (Load d a) v s = with_register s d v
state_after (LoadIndexed d a b) v s = with_register s d v
state_after (Compare a b) v s = record s { compared = comparison_of (register s a) (register s b) }
state_after (CompareImmediate a n) v s =
    record s { compared = comparison_of (register s a) (Number n) }
state_after _ v s = s

abbrev pub list_of : Option Event → List Event
list_of None = []
list_of (Some e) = e ∷ []

-- the event of the instruction, if it has one
abbrev pub event_of : Instruction → Value → State → List Event
event_of (Load d a) v s = run_event.Load (register s a) v ∷ []
event_of (LoadIndexed d a b) v s = run_event.Load (sum_of (register s a) (register s b)) v ∷ []
event_of (Store d a) v s = run_event.Store (register s a) (register s d) ∷ []
event_of (StoreIndexed d a b) v s =
    run_event.Store (sum_of (register s a) (register s b)) (register s d) ∷ []
event_of (Fence f) v s = run_event.Fence f ∷ []
event_of _ v s = []

-- the address of a load
abbrev pub address_of : Instruction → State → Value
address_of (Load d a) s = register s a
address_of (LoadIndexed d a b) s = sum_of (register s a) (register s b)
address_of _ s = NoValue

abbrev pub is_value : Value → Bool
is_value NoValue = false
is_value _ = true

abbrev pub is_address : Value → Bool
is_address (Address l) = true
is_address _ = false

-- whether the instruction is a fault here
abbrev pub is_fault : Instruction → State → Bool
is_fault (AddImmediate d a n) s = not (is_value (sum_of (register s a) (Number n)))
is_fault (Operate o d a b) s = not (is_value (operated o a b s))
is_fault (Load d a) s = not (is_address (register s a))
is_fault (LoadIndexed d a b) s = not (is_address (sum_of (register s a) (register s b)))
is_fault (Store d a) s = not (is_address (register s a))
is_fault (StoreIndexed d a b) s = not (is_address (sum_of (register s a) (register s b)))
is_fault (Branch c l) s = is_senseless c s.compared
is_fault _ s = false

abbrev pub is_load : Instruction → Bool
is_load (Load d a) = true
is_load (LoadIndexed d a b) = true
is_load _ = false

abbrev pub is_branch : Instruction → Bool
is_branch (Branch c l) = true
is_branch _ = false

-- whether a branch is taken here
abbrev pub takes_branch : Instruction → State → Bool
takes_branch (Branch c l) s = is_taken c s.compared
takes_branch _ s = false

-- the label at which the thread goes on, if not at the next line
abbrev pub branch_target : Instruction → Bool → Option ℕ
branch_target (Branch c l) b = if b then Some l else None
branch_target (Jump l) b = Some l
branch_target _ b = None
