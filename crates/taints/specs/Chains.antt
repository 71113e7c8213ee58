-- How the values of loads reach the events of a run.
use Rattle.std.specs.Prelude.{ℕ, zero, suc, ◌≡◌, ◌⊎◌, ◌<◌, ◌+◌, ◌↔◌, Bool, true, false, not, List, [], ◌∷◌, length, IsTrue, slice_index_or, Contains, if◌then◌else◌}
use Rattle.text_values.specs.declared.instruction.Fence.TheVariants.{Isync}
use Rattle.thread_runs.specs.declared.instruction.Instruction.{Instruction}
use Rattle.thread_runs.specs.declared.instruction.Instruction.TheVariants.{Immediate, Move, AddImmediate, Operate, Load, LoadIndexed, Store, StoreIndexed, Compare, CompareImmediate, Branch, Fence}
use Rattle.thread_runs.specs.Machine.{is_load, is_branch, cancels}

-- what an instruction reads and writes beside memory: a register, or CR0
pub data Resource : Type 0 where
  Register : ℕ → Resource
  Cr0 : Resource

-- the instruction writes the resource
abbrev pub WritesTo : Instruction → Resource → Type 0
WritesTo (Immediate d n) p = p ≡ Register d
WritesTo (Move d a) p = p ≡ Register d
WritesTo (AddImmediate d a n) p = p ≡ Register d
WritesTo (Operate o d a b) p = p ≡ Register d
WritesTo (Load d a) p = p ≡ Register d
WritesTo (LoadIndexed d a b) p = p ≡ Register d
WritesTo (Compare a b) p = p ≡ Cr0
WritesTo (CompareImmediate a n) p = p ≡ Cr0
WritesTo _ p = ⊥

-- it is an access that reads its address there
abbrev pub IsAddressRegister : Instruction → Resource → Type 0
IsAddressRegister (Load d a) p = p ≡ Register a
IsAddressRegister (LoadIndexed d a b) p = (p ≡ Register a) ⊎ (p ≡ Register b)
IsAddressRegister (Store d a) p = p ≡ Register a
IsAddressRegister (StoreIndexed d a b) p = (p ≡ Register a) ⊎ (p ≡ Register b)
IsAddressRegister _ p = ⊥

-- it stores what is there
abbrev pub IsStoredRegister : Instruction → Resource → Type 0
IsStoredRegister (Store d a) p = p ≡ Register d
IsStoredRegister (StoreIndexed d a b) p = p ≡ Register d
IsStoredRegister _ p = ⊥

-- it is no access, and reads the resource
abbrev pub IsOperand : Instruction → Resource → Type 0
IsOperand (Move d a) p = p ≡ Register a
IsOperand (AddImmediate d a n) p = p ≡ Register a
IsOperand (Operate o d a b) p = (p ≡ Register a) ⊎ (p ≡ Register b)
IsOperand (Compare a b) p = (p ≡ Register a) ⊎ (p ≡ Register b)
IsOperand (CompareImmediate a n) p = p ≡ Register a
IsOperand (Branch c l) p = p ≡ Cr0
IsOperand _ p = ⊥

-- the instruction is no access
abbrev pub is_no_access : Instruction → Bool
is_no_access (Load d a) = false
is_no_access (LoadIndexed d a b) = false
is_no_access (Store d a) = false
is_no_access (StoreIndexed d a b) = false
is_no_access _ = true

-- it is no access, and no operation of a register with itself that has always the same value
abbrev pub is_narrow : Instruction → Bool
is_narrow (Operate o d a b) = not (cancels o a b)
is_narrow i = is_no_access i

abbrev pub is_isync : Instruction → Bool
is_isync (Fence Isync) = true
is_isync _ = false

abbrev pub is_event : Instruction → Bool
is_event (Fence f) = true
is_event i = not (is_no_access i)

-- the instructions that a run executes, by their indexes; past its end nothing is read or written
abbrev pub Executed : Type 0
Executed = ℕ → Instruction

-- the resource was last written there, before the second instruction
pub record IsLastWriter (at : Executed) (p : Resource) (i j : ℕ) : Type 0 where
  pub before : i < j
  pub writes : WritesTo (at i) p
  pub last : (k : ℕ) → i < k → k < j → WritesTo (at k) p → ⊥

-- the second instruction reads, as one of its operands, what the first wrote, and is of the kind
-- that passes it on
abbrev pub FeedsOnward : (Instruction → Bool) → Executed → ℕ → ℕ → Type 0
FeedsOnward passes at i j =
    IsTrue (passes (at j)) × ((p : Resource) × IsOperand (at j) p × IsLastWriter at p i j)

-- a chain from one instruction to another, through those of the list in order, the last one
-- included
abbrev pub Chain : (ℕ → ℕ → Type 0) → ℕ → List ℕ → ℕ → Type 0
Chain Feeds i [] j = i ≡ j
Chain Feeds i (k ∷ ks) j = Feeds i k × Chain Feeds k ks j

-- what the instruction wrote reaches a resource, as it is read at the second, by a chain
pub record WriteReaches (passes : Instruction → Bool) (at : Executed) (i : ℕ) (p : Resource) (j : ℕ)
    : Type 0 where
  pub writer : ℕ
  pub through : List ℕ
  pub chain : Chain (FeedsOnward passes at) i through writer
  pub writes : IsLastWriter at p writer j

-- a load reaches one of the resources that the second instruction reads so
abbrev pub LoadReaches : (Instruction → Bool) → (Instruction → Resource → Type 0) → Executed → ℕ → ℕ
    → Type 0
LoadReaches passes Reads at i j =
    IsTrue (is_load (at i))
    × ((p : Resource) × Reads (at j) p × WriteReaches passes at i p j)

abbrev pub IsAddr : Executed → ℕ → ℕ → Type 0
IsAddr = LoadReaches is_no_access IsAddressRegister

abbrev pub IsData : Executed → ℕ → ℕ → Type 0
IsData = LoadReaches is_no_access IsStoredRegister

abbrev pub IsNeed : Executed → ℕ → ℕ → Type 0
IsNeed = LoadReaches is_narrow IsStoredRegister

-- behind a conditional branch whose CR0 the load reaches
abbrev pub IsCtrl : Executed → ℕ → ℕ → Type 0
IsCtrl at i j =
    IsTrue (is_event (at j))
    × ((b : ℕ) × (b < j) × IsTrue (is_branch (at b)) × LoadReaches is_no_access IsOperand at i b)

-- behind an isync that is so behind the load
abbrev pub IsCtrlIsync : Executed → ℕ → ℕ → Type 0
IsCtrlIsync at i j =
    IsTrue (is_event (at j))
    × ((f : ℕ) × (f < j) × IsTrue (is_isync (at f)) × IsCtrl at i f)

-- how many of the instructions before an index are events
abbrev pub event_index : Executed → ℕ → ℕ
event_index at zero = 0
event_index at (suc n) = if is_event (at n) then event_index at n + 1 else event_index at n

-- the pair, of indexes in the list of events, is one of these instructions
abbrev pub OfEvents : (Executed → ℕ → ℕ → Type 0) → Executed → ℕ × ℕ → Type 0
OfEvents R at p = (i j : ℕ) × R at i j × (p.0 ≡ event_index at i) × (p.1 ≡ event_index at j)

-- one pair comes before another
abbrev pub IsPairBefore : ℕ × ℕ → ℕ × ℕ → Type 0
IsPairBefore p q = (p.0 < q.0) ⊎ ((p.0 ≡ q.0) × (p.1 < q.1))

abbrev pub ArePairsRising : List (ℕ × ℕ) → Type 0
ArePairsRising ps =
    (i j : ℕ) → i < j → j < length ps
    → IsPairBefore (slice_index_or ps i (0, 0)) (slice_index_or ps j (0, 0))

-- the list has just the pairs of the relation, in rising order
pub record IsPairListOf (R : Executed → ℕ → ℕ → Type 0) (at : Executed) (ps : List (ℕ × ℕ))
    : Type 0 where
  pub rising : ArePairsRising ps
  pub exact : (p : ℕ × ℕ) → Contains ps p ↔ OfEvents R at p
