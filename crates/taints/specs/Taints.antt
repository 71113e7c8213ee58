-- The loads that reach a resource, as bits of a word.
use Rattle.std.specs.Prelude.{ℕ, ◌≡◌, ◌⊎◌, ◌↔◌, ◌<◌, ◌≤◌, ◌*◌, ◌%◌, ◌^◌, if◌then◌else◌, slice_set, bit_or, Bool, true, false, List, IsTrue, slice_index, length, replicate}
use Rattle.thread_runs.specs.declared.instruction.Instruction.{Instruction}
use Rattle.thread_runs.specs.declared.instruction.Instruction.TheVariants.{Immediate, Move, AddImmediate, Operate, Load, LoadIndexed, Store, StoreIndexed, Compare, CompareImmediate, Branch}
use Rattle.taints.specs.declared.taints.Taints.{Taints}
use Rattle.thread_runs.specs.Machine.{is_load}
use Rattle.taints.specs.Chains.{Executed, Resource, Register, Cr0, IsOperand, WritesTo, WriteReaches, event_index, is_no_access, is_narrow, is_event, IsStoredRegister, IsAddressRegister, LoadReaches}
use Rattle.bit_rows.specs.Relation.{Bit}

-- some load with this index among the events reaches the resource
abbrev pub TaintOf : (Instruction → Bool) → Executed → ℕ → Resource → ℕ → Type 0
TaintOf passes at n p e =
    (i : ℕ) × IsTrue (is_load (at i)) × (event_index at i ≡ e) × WriteReaches passes at i p n

abbrev pub word_of : Taints → Resource → ℕ
word_of t (Register r) = slice_index t.registers r
word_of t Cr0 = t.compared

-- no load reaches anything
abbrev pub clean_taints : Taints
clean_taints = record { registers = replicate 256 0; compared = 0 }

-- the word has the bits of those resources that the instruction reads so
abbrev pub IsUnion : (Instruction → Resource → Type 0) → Instruction → Taints → ℕ → Type 0
IsUnion Reads i t word = (e : ℕ) → Bit word e ↔ ((a : Resource) × Reads i a × Bit (word_of t a) e)

-- which instructions pass values on: those that are no access, or the fewer ones
abbrev pub passes_of : Bool → Instruction → Bool
passes_of true i = is_narrow i
passes_of false i = is_no_access i

-- the bits of what an instruction writes: a load's own, or those of its operands
abbrev pub IsOrigin : Bool → Instruction → ℕ → Taints → ℕ → Type 0
IsOrigin narrow i index t e =
    (IsTrue (is_load i) × (index ≡ e))
    ⊎ (IsTrue (passes_of narrow i) × ((a : Resource) × IsOperand i a × Bit (word_of t a) e))

-- a resource in the file of registers
abbrev pub IsInFile : Resource → Type 0
IsInFile (Register r) = r < 256
IsInFile Cr0 = Unit {0}

-- the bits of all operands of an instruction
abbrev pub operand_word : Instruction → Taints → ℕ
operand_word (Move d a) t = word_of t (Register a)
operand_word (AddImmediate d a n) t = word_of t (Register a)
operand_word (Operate o d a b) t = bit_or (word_of t (Register a)) (word_of t (Register b))
operand_word (Compare a b) t = bit_or (word_of t (Register a)) (word_of t (Register b))
operand_word (CompareImmediate a n) t = word_of t (Register a)
operand_word (Branch c l) t = t.compared
operand_word _ t = 0

-- a word with one bit
abbrev pub bit_word : ℕ → ℕ
bit_word index = 1 * 2 ^ index % 2 ^ 128

abbrev pub origin_word : Bool → Instruction → ℕ → Taints → ℕ
origin_word narrow i index t =
    if is_load i then bit_word index else if passes_of narrow i then operand_word i t else 0

abbrev pub with_word : Instruction → ℕ → Taints → Taints
with_word (Immediate d n) w t = record t { registers = slice_set t.registers d w }
with_word (Move d a) w t = record t { registers = slice_set t.registers d w }
with_word (AddImmediate d a n) w t = record t { registers = slice_set t.registers d w }
with_word (Operate o d a b) w t = record t { registers = slice_set t.registers d w }
with_word (Load d a) w t = record t { registers = slice_set t.registers d w }
with_word (LoadIndexed d a b) w t = record t { registers = slice_set t.registers d w }
with_word (Compare a b) w t = record t { compared = w }
with_word (CompareImmediate a n) w t = record t { compared = w }
with_word _ w t = t

abbrev pub taints_after : Bool → Instruction → ℕ → Taints → Taints
taints_after narrow i index t = with_word i (origin_word narrow i index t) t

-- after an instruction: what it writes has its operands' bits, or a load's own
pub record IsTaintStep (narrow : Bool) (i : Instruction) (index : ℕ) (old new : Taints)
    : Type 0 where
  pub written : (p : Resource) → IsInFile p → WritesTo i p → (e : ℕ)
      → Bit (word_of new p) e ↔ IsOrigin narrow i index old e
  pub kept : (p : Resource) → (WritesTo i p → ⊥) → word_of new p ≡ word_of old p

-- a word that is not 0 is that of a resource that some instruction writes, from the first index on,
-- before the second
pub record IsWrittenBetween (at : Executed) (from to : ℕ) (t : Taints) : Type 0 where
  pub height : length t.registers ≡ 256
  pub writers : (p : Resource) → IsInFile p
      → (word_of t p ≡ 0) ⊎ ((j : ℕ) × (from ≤ j) × (j < to) × WritesTo (at j) p)

-- the words are those of the loads that reach each resource
abbrev pub AreTaints : (Instruction → Bool) → Executed → ℕ → Taints → Type 0
AreTaints passes at n t =
    (p : Resource) → IsInFile p → (e : ℕ) → Bit (word_of t p) e ↔ TaintOf passes at n p e

-- how an access reads: the address, or what it stores
abbrev pub reads_of : Bool → Instruction → Resource → Type 0
reads_of true = IsStoredRegister
reads_of false = IsAddressRegister

abbrev pub read_word : Bool → Instruction → Taints → ℕ
read_word false (Load d a) t = word_of t (Register a)
read_word false (LoadIndexed d a b) t = bit_or (word_of t (Register a)) (word_of t (Register b))
read_word false (Store d a) t = word_of t (Register a)
read_word false (StoreIndexed d a b) t = bit_or (word_of t (Register a)) (word_of t (Register b))
read_word true (Store d a) t = word_of t (Register d)
read_word true (StoreIndexed d a b) t = word_of t (Register d)
read_word _ _ t = 0

-- the instruction's registers lie in the file
pub record HasRegistersInFile (i : Instruction) : Type 0 where
  pub operands : (p : Resource) → IsOperand i p → IsInFile p
  pub addresses : (p : Resource) → IsAddressRegister i p → IsInFile p
  pub stored : (p : Resource) → IsStoredRegister i p → IsInFile p

-- at each event, the word has the loads of which the relation holds, by their indexes among the
-- events
abbrev pub AreLoadWordsOf : (Executed → ℕ → ℕ → Type 0) → Executed → ℕ → List ℕ → Type 0
AreLoadWordsOf R at n words = (j : ℕ) → j < n → IsTrue (is_event (at j)) → (e : ℕ)
    → Bit (slice_index words (event_index at j)) e ↔ ((i : ℕ) × (event_index at i ≡ e) × R at i j)

abbrev pub AreLoadWords : Bool → Bool → Executed → ℕ → List ℕ → Type 0
AreLoadWords narrow stored = AreLoadWordsOf (LoadReaches (passes_of narrow) (reads_of stored))
