-- The machine of one thread: values, registers, and what each instruction does. Read next: Runs.
use Rattle.std.specs.Prelude.{ℕ, ℤ, ◌+◌, ◌-◌, ◌%◌, ◌^◌, nat_eq, nat_lt, Bool, true, false, not, ◌&&◌, ◌||◌, bytes_eq, List, [], ◌∷◌, Option, Some, None, if◌then◌else◌, slice_index_or, slice_set, bit_xor, bit_or, bit_and}
use Rattle.std.specs.Int.{w32, cast_unsigned}
use Rattle.text_values.specs.declared.test.Value as written
use Rattle.text_values.specs.declared.test.Value.TheVariants as texts
use Rattle.text_values.specs.declared.instruction.Operation.{Operation}
use Rattle.text_values.specs.declared.instruction.Operation.TheVariants.{Add, SubtractFrom, Xor, Or, And}
use Rattle.text_values.specs.declared.instruction.BranchCondition.{BranchCondition}
use Rattle.text_values.specs.declared.instruction.BranchCondition.TheVariants as when
use Rattle.text_values.specs.declared.instruction.Instruction.{Instruction}
use Rattle.text_values.specs.declared.instruction.Instruction.TheVariants.{LoadImmediate, Move, AddImmediate, Compute, Load, LoadIndexed, Store, StoreIndexed, Compare, CompareImmediate, BranchIf, Branch}
use Rattle.text_values.specs.declared.instruction.Instruction.TheVariants as instructions
use Rattle.meaning.specs.Names.{Name}

-- A register or a location holds a number of 32 bits or the address of a location. `NoValue` is
-- what an operation gives where it would be a fault.
pub data Value : Type 0 where
  Number : (n : ℕ) → Value
  Address : (location : Name) → Value
  NoValue : Value

-- What the last comparison found of its first operand. `Unlike` is said of an address and anything
-- but the same address.
pub data Comparison : Type 0 where
  Less : Comparison
  Equal : Comparison
  Greater : Comparison
  Unlike : Comparison

-- The state of a thread: what its registers hold, by number, and CR0.
pub record State : Type 0 where
  pub registers : List Value
  pub compared : Comparison

-- a number of the text, as 32 bits
abbrev pub word : ℤ → Value
word n = Number (cast_unsigned w32 n)

-- a value of the text
abbrev pub value_of : written.Value → Value
value_of (texts.Number n) = word n
value_of (texts.Address l) = Address l

-- `add`: to an address nothing but 0 can be added.
abbrev pub sum_of : Value → Value → Value
sum_of (Number m) (Number n) = Number ((m + n) % 2 ^ 32)
sum_of (Address l) (Number n) = if nat_eq n 0 then Address l else NoValue
sum_of (Number m) (Address l) = if nat_eq m 0 then Address l else NoValue
sum_of _ _ = NoValue

-- `subf` and `xor` of two addresses: 0 if they are the same
abbrev pub zero_if_same : Name → Name → Value
zero_if_same k l = if bytes_eq k l then Number 0 else NoValue

-- `subf`: the second operand less the first
abbrev pub difference_of : Value → Value → Value
difference_of (Number m) (Number n) = Number ((n + (2 ^ 32 - m)) % 2 ^ 32)
difference_of (Address k) (Address l) = zero_if_same k l
difference_of _ _ = NoValue

-- `xor`
abbrev pub exclusive_or_of : Value → Value → Value
exclusive_or_of (Number m) (Number n) = Number (bit_xor m n)
exclusive_or_of (Address k) (Address l) = zero_if_same k l
exclusive_or_of _ _ = NoValue

-- `or` and `and`: numbers alone
abbrev pub bitwise_of : (ℕ → ℕ → ℕ) → Value → Value → Value
bitwise_of f (Number m) (Number n) = Number (f m n)
bitwise_of f _ _ = NoValue

-- what an operation gives of two values
abbrev pub result_of : Operation → Value → Value → Value
result_of Add v w = sum_of v w
result_of SubtractFrom v w = difference_of v w
result_of Xor v w = exclusive_or_of v w
result_of Or v w = bitwise_of bit_or v w
result_of And v w = bitwise_of bit_and v w

-- It is `xor` or `subf` of a register with itself, which gives 0 whatever the register holds.
abbrev pub cancels : Operation → ℕ → ℕ → Bool
cancels SubtractFrom a b = nat_eq a b
cancels Xor a b = nat_eq a b
cancels _ a b = false

-- The first of two numbers of 32 bits is the lesser one, as signed numbers.
abbrev pub is_less : ℕ → ℕ → Bool
is_less m n = nat_lt ((m + 2 ^ 31) % 2 ^ 32) ((n + 2 ^ 31) % 2 ^ 32)

-- what a comparison finds of its first operand
abbrev pub comparison_of : Value → Value → Comparison
comparison_of (Number m) (Number n) =
    if nat_eq m n then Equal else if is_less m n then Less else Greater
comparison_of (Address k) (Address l) = if bytes_eq k l then Equal else Unlike
comparison_of _ _ = Unlike

-- The branch is taken after this comparison.
abbrev pub is_taken : BranchCondition → Comparison → Bool
is_taken when.Equal Equal = true
is_taken when.NotEqual Equal = false
is_taken when.NotEqual _ = true
is_taken when.Less Less = true
is_taken when.Greater Greater = true
is_taken when.LessOrEqual Less = true
is_taken when.LessOrEqual Equal = true
is_taken when.GreaterOrEqual Greater = true
is_taken when.GreaterOrEqual Equal = true
is_taken _ _ = false

-- The branch is a fault after this comparison: it asks for an order where there is none.
abbrev pub lacks_order : BranchCondition → Comparison → Bool
lacks_order when.Equal c = false
lacks_order when.NotEqual c = false
lacks_order _ Unlike = true
lacks_order _ _ = false

-- what a register holds
abbrev pub register : State → ℕ → Value
register s r = slice_index_or s.registers r (Number 0)

-- the state in which a register holds another value
abbrev pub with_register : State → ℕ → Value → State
with_register s r v = record s { registers = slice_set s.registers r v }

-- what an operation gives of two registers
abbrev pub result_in : State → Operation → ℕ → ℕ → Value
result_in s o a b = if cancels o a b then Number 0 else result_of o (register s a) (register s b)

-- the state after the instruction, which loads the value if it is a load
abbrev pub state_after : Instruction → Value → State → State
state_after (LoadImmediate d n) v s = with_register s d (word n)
state_after (Move d a) v s = with_register s d (register s a)
state_after (AddImmediate d a n) v s = with_register s d (sum_of (register s a) (word n))
state_after (Compute o d a b) v s = with_register s d (result_in s o a b)
state_after (Load d a) v s = with_register s d v
state_after (LoadIndexed d a b) v s = with_register s d v
state_after (Compare a b) v s =
    record s { compared = comparison_of (register s a) (register s b) }
state_after (CompareImmediate a n) v s =
    record s { compared = comparison_of (register s a) (word n) }
state_after _ v s = s

-- where a load loads from, or a store stores
abbrev pub address_of : Instruction → State → Value
address_of (Load d a) s = register s a
address_of (LoadIndexed d a b) s = sum_of (register s a) (register s b)
address_of (Store d a) s = register s a
address_of (StoreIndexed d a b) s = sum_of (register s a) (register s b)
address_of _ s = NoValue

-- the value that a store stores, if it is one
abbrev pub stored_values : Instruction → State → List Value
stored_values (Store d a) s = register s d ∷ []
stored_values (StoreIndexed d a b) s = register s d ∷ []
stored_values _ s = []

-- It is a number or an address.
abbrev pub is_value : Value → Bool
is_value NoValue = false
is_value _ = true

-- It is an address.
abbrev pub is_address : Value → Bool
is_address (Address l) = true
is_address _ = false

-- It is `lwz` or `lwzx`.
abbrev pub is_load : Instruction → Bool
is_load (Load d a) = true
is_load (LoadIndexed d a b) = true
is_load _ = false

-- It is `stw` or `stwx`.
abbrev pub is_store : Instruction → Bool
is_store (Store d a) = true
is_store (StoreIndexed d a b) = true
is_store _ = false

-- It is a fence.
abbrev pub is_fence : Instruction → Bool
is_fence (instructions.Fence f) = true
is_fence _ = false

-- It is a conditional branch.
abbrev pub is_branch : Instruction → Bool
is_branch (BranchIf c l) = true
is_branch _ = false

-- The instruction is a fault in this state: it has no result, it is a branch that lacks an order,
-- or it is a load or a store at no address.
abbrev pub is_fault : Instruction → State → Bool
is_fault (AddImmediate d a n) s = not (is_value (sum_of (register s a) (word n)))
is_fault (Compute o d a b) s = not (is_value (result_in s o a b))
is_fault (BranchIf c l) s = lacks_order c s.compared
is_fault i s = (is_load i || is_store i) && not (is_address (address_of i s))

-- The instruction is a conditional branch that is taken in this state.
abbrev pub is_taken_in : State → Instruction → Bool
is_taken_in s (BranchIf c l) = is_taken c s.compared
is_taken_in s _ = false

-- the label at which the thread goes on, if not at the next line
abbrev pub target : Instruction → Bool → Option Name
target (BranchIf c l) taken = if taken then Some l else None
target (Branch l) taken = Some l
target _ taken = None
