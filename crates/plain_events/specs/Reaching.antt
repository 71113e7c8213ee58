-- Which instructions reach which: what the loops of the code find.
use Rattle.std.specs.Prelude.{ℕ, ◌<◌, List, Option, Some, None, IsTrue}
use Rattle.meaning.specs.Machine.{is_branch}
use Rattle.meaning.specs.Dependencies.{Slot, Instructions, IsWritten, IsOperand, IsLastWriter, Feeds, IsChain, Reaches, LoadReaches, IsCtrl, is_link, is_isync}
use Rattle.plain_events.specs.declared.slot.Passes.{Passes}
use Rattle.plain_events.specs.Slots.{passes_of}

-- The code found the last instruction before the index j that writes the slot.
abbrev pub IsWriterFound : Instructions → Slot → ℕ → Option ℕ → Type 0
IsWriterFound at p j None = (i : ℕ) → i < j → IsWritten (at i) p → ⊥
IsWriterFound at p j (Some i) = IsLastWriter at p i j

-- A chain of no step or more leads to the instruction j from the instruction i.
abbrev pub HasChain : Passes → Instructions → ℕ → ℕ → Type 0
HasChain passes at j i = (through : List ℕ) × IsChain (Feeds (passes_of passes) at) i through j

-- A chain of one step or more does, likewise.
abbrev pub IsFedBy : Passes → Instructions → ℕ → ℕ → Type 0
IsFedBy passes at j i = (k : ℕ) × Feeds (passes_of passes) at k j × HasChain passes at k i

-- The instruction i reaches the slot, as the instruction j reads it.
abbrev pub ReachesSlot : Passes → Instructions → ℕ → Slot → ℕ → Type 0
ReachesSlot passes at j p i = Reaches (passes_of passes) at i p j

-- It reaches a slot of the set, as the instruction j reads it.
abbrev pub ReachesOneOf : Passes → Instructions → ℕ → (Slot → Type 0) → ℕ → Type 0
ReachesOneOf passes at j P i = (p : Slot) × P p × ReachesSlot passes at j p i

-- The instruction b is a conditional branch, and reads what the load i reaches.
abbrev pub IsBranchOn : Instructions → ℕ → ℕ → Type 0
IsBranchOn at i b = IsTrue (is_branch (at b)) × LoadReaches is_link IsOperand at i b

-- The instruction f is `isync`, and `ctrl`-after the load i.
abbrev pub IsIsyncOn : Instructions → ℕ → ℕ → Type 0
IsIsyncOn at i f = IsTrue (is_isync (at f)) × IsCtrl at i f

-- It is so of an instruction before the index j.
abbrev pub IsSoBefore : (ℕ → Type 0) → ℕ → Type 0
IsSoBefore P j = (i : ℕ) × (i < j) × P i
