-- How the values of loads reach the later instructions of a run: `addr`, `data`, `ctrl` and
-- `ctrlisync`, and need. An instruction goes by its index in the run. Read next: Executions.
use Rattle.std.specs.Prelude.{ℕ, ◌≡◌, ◌⊎◌, ◌<◌, ◌||◌, Bool, true, false, not, List, [], ◌∷◌, IsTrue}
use Rattle.text_values.specs.declared.instruction.Fence.TheVariants.{Isync}
use Rattle.text_values.specs.declared.instruction.Instruction.{Instruction}
use Rattle.text_values.specs.declared.instruction.Instruction.TheVariants.{LoadImmediate, Move, AddImmediate, Compute, Load, LoadIndexed, Store, StoreIndexed, Compare, CompareImmediate, BranchIf, Fence}
use Rattle.meaning.specs.Machine.{is_load, is_store, is_fence, is_branch, cancels}

-- What an instruction reads and writes beside memory: a register, or CR0.
pub data Slot : Type 0 where
  Register : (r : ℕ) → Slot
  Cr0 : Slot

-- The instruction writes the slot.
abbrev pub IsWritten : Instruction → Slot → Type 0
IsWritten (LoadImmediate d n) p = p ≡ Register d
IsWritten (Move d a) p = p ≡ Register d
IsWritten (AddImmediate d a n) p = p ≡ Register d
IsWritten (Compute o d a b) p = p ≡ Register d
IsWritten (Load d a) p = p ≡ Register d
IsWritten (LoadIndexed d a b) p = p ≡ Register d
IsWritten (Compare a b) p = p ≡ Cr0
IsWritten (CompareImmediate a n) p = p ≡ Cr0
IsWritten _ p = ⊥

-- The instruction is a load or a store that reads its address there.
abbrev pub IsAddressRegister : Instruction → Slot → Type 0
IsAddressRegister (Load d a) p = p ≡ Register a
IsAddressRegister (LoadIndexed d a b) p = (p ≡ Register a) ⊎ (p ≡ Register b)
IsAddressRegister (Store d a) p = p ≡ Register a
IsAddressRegister (StoreIndexed d a b) p = (p ≡ Register a) ⊎ (p ≡ Register b)
IsAddressRegister _ p = ⊥

-- The instruction is a store that stores what is there.
abbrev pub IsStoredRegister : Instruction → Slot → Type 0
IsStoredRegister (Store d a) p = p ≡ Register d
IsStoredRegister (StoreIndexed d a b) p = p ≡ Register d
IsStoredRegister _ p = ⊥

-- The instruction is neither a load nor a store, and reads the slot.
abbrev pub IsOperand : Instruction → Slot → Type 0
IsOperand (Move d a) p = p ≡ Register a
IsOperand (AddImmediate d a n) p = p ≡ Register a
IsOperand (Compute o d a b) p = (p ≡ Register a) ⊎ (p ≡ Register b)
IsOperand (Compare a b) p = (p ≡ Register a) ⊎ (p ≡ Register b)
IsOperand (CompareImmediate a n) p = p ≡ Register a
IsOperand (BranchIf c l) p = p ≡ Cr0
IsOperand _ p = ⊥

-- A chain may run through the instruction: it is neither a load nor a store.
abbrev pub is_link : Instruction → Bool
is_link i = not (is_load i || is_store i)

-- A chain of need may run through it: it is no `xor` or `subf` of a register with itself either.
abbrev pub is_link_of_need : Instruction → Bool
is_link_of_need (Compute o d a b) = not (cancels o a b)
is_link_of_need i = is_link i

-- It is `isync`.
abbrev pub is_isync : Instruction → Bool
is_isync (Fence Isync) = true
is_isync _ = false

-- The instruction is an event: a load, a store or a fence.
abbrev pub is_event : Instruction → Bool
is_event i = is_load i || (is_store i || is_fence i)

-- The instructions that a run executes, by their indexes.
abbrev pub Instructions : Type 0
Instructions = ℕ → Instruction

-- What the slot holds before the instruction j was written by the instruction i.
pub record IsLastWriter (at : Instructions) (p : Slot) (i j : ℕ) : Type 0 where
  pub before : i < j
  pub writes : IsWritten (at i) p
  pub last : (k : ℕ) → i < k → k < j → IsWritten (at k) p → ⊥

-- A chain passes the instruction j, which reads what the instruction i was the last to write.
abbrev pub Feeds : (Instruction → Bool) → Instructions → ℕ → ℕ → Type 0
Feeds passes at i j =
    IsTrue (passes (at j)) × ((p : Slot) × IsOperand (at j) p × IsLastWriter at p i j)

-- Each instruction feeds the next, from the first through those of the list, whose last is j.
abbrev pub IsChain : (ℕ → ℕ → Type 0) → ℕ → List ℕ → ℕ → Type 0
IsChain R i [] j = i ≡ j
IsChain R i (k ∷ ks) j = R i k × IsChain R k ks j

-- What the instruction i wrote reaches the slot, as the instruction j reads it, along a chain.
pub record Reaches (passes : Instruction → Bool) (at : Instructions) (i : ℕ) (p : Slot) (j : ℕ)
    : Type 0 where
  pub writer : ℕ
  pub through : List ℕ
  pub chain : IsChain (Feeds passes at) i through writer
  pub writes : IsLastWriter at p writer j

-- The instruction i is a load, and reaches a slot that the instruction j reads in this way.
abbrev pub LoadReaches : (Instruction → Bool) → (Instruction → Slot → Type 0) → Instructions → ℕ
    → ℕ → Type 0
LoadReaches passes Reads at i j =
    IsTrue (is_load (at i)) × ((p : Slot) × Reads (at j) p × Reaches passes at i p j)

-- `addr`: the load reaches the address of the load or store.
abbrev pub IsAddr : Instructions → ℕ → ℕ → Type 0
IsAddr = LoadReaches is_link IsAddressRegister

-- `data`: the load reaches what is stored.
abbrev pub IsData : Instructions → ℕ → ℕ → Type 0
IsData = LoadReaches is_link IsStoredRegister

-- Need: as `data`, by a chain that passes no `xor` or `subf` of a register with itself.
abbrev pub IsNeed : Instructions → ℕ → ℕ → Type 0
IsNeed = LoadReaches is_link_of_need IsStoredRegister

-- `ctrl`: the load reaches CR0 of a conditional branch that stands before the event.
abbrev pub IsCtrl : Instructions → ℕ → ℕ → Type 0
IsCtrl at i j =
    IsTrue (is_event (at j))
    × ((b : ℕ) × (b < j) × IsTrue (is_branch (at b)) × LoadReaches is_link IsOperand at i b)

-- `ctrlisync`: an `isync` that is `ctrl`-after the load stands before the event.
abbrev pub IsCtrlIsync : Instructions → ℕ → ℕ → Type 0
IsCtrlIsync at i j =
    IsTrue (is_event (at j))
    × ((f : ℕ) × (f < j) × IsTrue (is_isync (at f)) × IsCtrl at i f)
