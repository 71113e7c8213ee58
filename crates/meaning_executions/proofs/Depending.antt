-- The same dependencies by numbers as by names.
use Rattle.std.proofs.Common.{ℕ, ◌≡◌, ◌⊎◌, ◌↔◌, inl, inr, Bool, not, List, [], ◌∷◌, refl, sym, ap, subst, ◌∙◌}
use Rattle.text_values.specs.declared.instruction.Fence.TheVariants as fences
use Rattle.text_values.specs.declared.instruction.Operation.{Operation}
use Rattle.text_values.specs.declared.instruction.Operation.TheVariants as operations
use Rattle.text_values.specs.declared.instruction.Instruction as text
use Rattle.text_values.specs.declared.instruction.Instruction.TheVariants as does
use Rattle.thread_runs.specs.declared.instruction.Instruction as numbered_instruction
use Rattle.thread_runs.specs.Machine as machine
use Rattle.ppc_lowering.specs.Lowering.{lowered_instruction}
use Rattle.taints.specs.Chains as numbered
use Rattle.taints.specs.Chains.{Resource}
use Rattle.meaning.specs.Names.{Name}
use Rattle.meaning.specs.Machine as named
use Rattle.meaning.specs.Dependencies as depends
use Rattle.meaning.specs.Dependencies.{Slot, Instructions}
use Rattle.meaning_executions.specs.Dependencies.{IsSameInstruction, DependAlike}
use Rattle.meaning_executions.proofs.Machines.{loading, branching, cancelled}

-- ---- Registers and CR0

abbrev lowered_slot : Slot → Resource
lowered_slot (depends.Register r) = numbered.Register r
lowered_slot depends.Cr0 = numbered.Cr0

abbrev raised_slot : Resource → Slot
raised_slot (numbered.Register r) = depends.Register r
raised_slot numbered.Cr0 = depends.Cr0

raised_back : (p : Slot) → raised_slot (lowered_slot p) ≡ p
raised_back (depends.Register r) = refl
raised_back depends.Cr0 = refl

lowered_back : (q : Resource) → lowered_slot (raised_slot q) ≡ q
lowered_back (numbered.Register r) = refl
lowered_back numbered.Cr0 = refl

-- the one holds of a slot where the other does
record Fits (P : Slot → Type 0) (Q : Resource → Type 0) : Type 0 where
  down : (p : Slot) → P p → Q (lowered_slot p)
  up : (q : Resource) → Q q → P (raised_slot q)

one : (s : Slot) → Fits (λ p. p ≡ s) (λ q. q ≡ lowered_slot s)
one s = record {
  down = λ p e. ap (λ (r : Slot). lowered_slot r) e;
  up = λ q e. ap (λ (r : Resource). raised_slot r) e ∙ raised_back s;
}

two : (s u : Slot) → Fits (λ p. (p ≡ s) ⊎ (p ≡ u)) (λ q. (q ≡ lowered_slot s) ⊎ (q ≡ lowered_slot u))
two s u = record {
  down = λ p e. elim e [
    | inl h ↦ inl ((one s).down p h)
    | inr h ↦ inr ((one u).down p h)
  ];
  up = λ q e. elim e [
    | inl h ↦ inl ((one s).up q h)
    | inr h ↦ inr ((one u).up q h)
  ];
}

nowhere : Fits (λ p. ⊥) (λ q. ⊥)
nowhere = record { down = λ p h. h; up = λ q h. h }

-- ---- Instructions

written : (labels : List Name) (i : text.Instruction)
    → Fits (depends.IsWritten i) (numbered.WritesTo (lowered_instruction labels i))
written labels (does.LoadImmediate d n) = one (depends.Register d)
written labels (does.Move d a) = one (depends.Register d)
written labels (does.AddImmediate d a n) = one (depends.Register d)
written labels (does.Compute o d a b) = one (depends.Register d)
written labels (does.Load d a) = one (depends.Register d)
written labels (does.LoadIndexed d a b) = one (depends.Register d)
written labels (does.Store d a) = nowhere
written labels (does.StoreIndexed d a b) = nowhere
written labels (does.Compare a b) = one depends.Cr0
written labels (does.CompareImmediate a n) = one depends.Cr0
written labels (does.BranchIf c l) = nowhere
written labels (does.Branch l) = nowhere
written labels (does.Fence f) = nowhere

address : (labels : List Name) (i : text.Instruction)
    → Fits (depends.IsAddressRegister i) (numbered.IsAddressRegister (lowered_instruction labels i))
address labels (does.LoadImmediate d n) = nowhere
address labels (does.Move d a) = nowhere
address labels (does.AddImmediate d a n) = nowhere
address labels (does.Compute o d a b) = nowhere
address labels (does.Load d a) = one (depends.Register a)
address labels (does.LoadIndexed d a b) = two (depends.Register a) (depends.Register b)
address labels (does.Store d a) = one (depends.Register a)
address labels (does.StoreIndexed d a b) = two (depends.Register a) (depends.Register b)
address labels (does.Compare a b) = nowhere
address labels (does.CompareImmediate a n) = nowhere
address labels (does.BranchIf c l) = nowhere
address labels (does.Branch l) = nowhere
address labels (does.Fence f) = nowhere

stored : (labels : List Name) (i : text.Instruction)
    → Fits (depends.IsStoredRegister i) (numbered.IsStoredRegister (lowered_instruction labels i))
stored labels (does.LoadImmediate d n) = nowhere
stored labels (does.Move d a) = nowhere
stored labels (does.AddImmediate d a n) = nowhere
stored labels (does.Compute o d a b) = nowhere
stored labels (does.Load d a) = nowhere
stored labels (does.LoadIndexed d a b) = nowhere
stored labels (does.Store d a) = one (depends.Register d)
stored labels (does.StoreIndexed d a b) = one (depends.Register d)
stored labels (does.Compare a b) = nowhere
stored labels (does.CompareImmediate a n) = nowhere
stored labels (does.BranchIf c l) = nowhere
stored labels (does.Branch l) = nowhere
stored labels (does.Fence f) = nowhere

operand : (labels : List Name) (i : text.Instruction)
    → Fits (depends.IsOperand i) (numbered.IsOperand (lowered_instruction labels i))
operand labels (does.LoadImmediate d n) = nowhere
operand labels (does.Move d a) = one (depends.Register a)
operand labels (does.AddImmediate d a n) = one (depends.Register a)
operand labels (does.Compute o d a b) = two (depends.Register a) (depends.Register b)
operand labels (does.Load d a) = nowhere
operand labels (does.LoadIndexed d a b) = nowhere
operand labels (does.Store d a) = nowhere
operand labels (does.StoreIndexed d a b) = nowhere
operand labels (does.Compare a b) = two (depends.Register a) (depends.Register b)
operand labels (does.CompareImmediate a n) = one (depends.Register a)
operand labels (does.BranchIf c l) = one depends.Cr0
operand labels (does.Branch l) = nowhere
operand labels (does.Fence f) = nowhere

link : (labels : List Name) (i : text.Instruction)
    → numbered.is_no_access (lowered_instruction labels i) ≡ depends.is_link i
link labels (does.LoadImmediate d n) = refl
link labels (does.Move d a) = refl
link labels (does.AddImmediate d a n) = refl
link labels (does.Compute o d a b) = refl
link labels (does.Load d a) = refl
link labels (does.LoadIndexed d a b) = refl
link labels (does.Store d a) = refl
link labels (does.StoreIndexed d a b) = refl
link labels (does.Compare a b) = refl
link labels (does.CompareImmediate a n) = refl
link labels (does.BranchIf c l) = refl
link labels (does.Branch l) = refl
link labels (does.Fence f) = refl

link_of_need : (labels : List Name) (i : text.Instruction)
    → numbered.is_narrow (lowered_instruction labels i) ≡ depends.is_link_of_need i
link_of_need labels (does.LoadImmediate d n) = refl
link_of_need labels (does.Move d a) = refl
link_of_need labels (does.AddImmediate d a n) = refl
link_of_need labels (does.Compute o d a b) = ap not (cancelled o a b)
link_of_need labels (does.Load d a) = refl
link_of_need labels (does.LoadIndexed d a b) = refl
link_of_need labels (does.Store d a) = refl
link_of_need labels (does.StoreIndexed d a b) = refl
link_of_need labels (does.Compare a b) = refl
link_of_need labels (does.CompareImmediate a n) = refl
link_of_need labels (does.BranchIf c l) = refl
link_of_need labels (does.Branch l) = refl
link_of_need labels (does.Fence f) = refl

isync : (labels : List Name) (i : text.Instruction)
    → numbered.is_isync (lowered_instruction labels i) ≡ depends.is_isync i
isync labels (does.LoadImmediate d n) = refl
isync labels (does.Move d a) = refl
isync labels (does.AddImmediate d a n) = refl
isync labels (does.Compute o d a b) = refl
isync labels (does.Load d a) = refl
isync labels (does.LoadIndexed d a b) = refl
isync labels (does.Store d a) = refl
isync labels (does.StoreIndexed d a b) = refl
isync labels (does.Compare a b) = refl
isync labels (does.CompareImmediate a n) = refl
isync labels (does.BranchIf c l) = refl
isync labels (does.Branch l) = refl
isync labels (does.Fence fences.Sync) = refl
isync labels (does.Fence fences.LightweightSync) = refl
isync labels (does.Fence fences.Eieio) = refl
isync labels (does.Fence fences.Isync) = refl

event : (labels : List Name) (i : text.Instruction)
    → numbered.is_event (lowered_instruction labels i) ≡ depends.is_event i
event labels (does.LoadImmediate d n) = refl
event labels (does.Move d a) = refl
event labels (does.AddImmediate d a n) = refl
event labels (does.Compute o d a b) = refl
event labels (does.Load d a) = refl
event labels (does.LoadIndexed d a b) = refl
event labels (does.Store d a) = refl
event labels (does.StoreIndexed d a b) = refl
event labels (does.Compare a b) = refl
event labels (does.CompareImmediate a n) = refl
event labels (does.BranchIf c l) = refl
event labels (does.Branch l) = refl
event labels (does.Fence f) = refl

-- ---- Chains

module _ (by_number : numbered.Executed) (at : Instructions)
    (same : (n : ℕ) → IsSameInstruction (by_number n) (at n)) where
  is_true : (f : numbered_instruction.Instruction → Bool) (g : text.Instruction → Bool)
      → ((labels : List Name) (i : text.Instruction) → f (lowered_instruction labels i) ≡ g i)
      → (n : ℕ) → f (by_number n) ≡ g (at n)
  is_true f g alike n = ap f (same n).1 ∙ alike (same n).0 (at n)

  fits : (P : text.Instruction → Slot → Type 0)
      (Q : numbered_instruction.Instruction → Resource → Type 0)
      → ((labels : List Name) (i : text.Instruction) → Fits (P i) (Q (lowered_instruction labels i)))
      → (n : ℕ) → Fits (P (at n)) (Q (by_number n))
  fits P Q alike n =
      subst (λ (x : numbered_instruction.Instruction). Fits (P (at n)) (Q x)) (sym (same n).1)
      (alike (same n).0 (at n))

  writes : (n : ℕ) → Fits (depends.IsWritten (at n)) (numbered.WritesTo (by_number n))
  writes = fits depends.IsWritten numbered.WritesTo written

  last_down : (p : Slot) (i j : ℕ) → depends.IsLastWriter at p i j
      → numbered.IsLastWriter by_number (lowered_slot p) i j
  last_down p i j h = record {
    before = h.before;
    writes = (writes i).down p h.writes;
    last = λ k after ahead w. h.last k after ahead
        (subst (λ (r : Slot). depends.IsWritten (at k) r) (raised_back p)
        ((writes k).up (lowered_slot p) w));
  }

  last_up : (q : Resource) (i j : ℕ) → numbered.IsLastWriter by_number q i j
      → depends.IsLastWriter at (raised_slot q) i j
  last_up q i j h = record {
    before = h.before;
    writes = (writes i).up q h.writes;
    last = λ k after ahead w. h.last k after ahead
        (subst (λ (r : Resource). numbered.WritesTo (by_number k) r) (lowered_back q)
        ((writes k).down (raised_slot q) w));
  }

  chain_down : (R S : ℕ → ℕ → Type 0) → ((i j : ℕ) → R i j → S i j) → (i : ℕ) (ks : List ℕ) (j : ℕ)
      → depends.IsChain R i ks j → numbered.Chain S i ks j
  chain_down R S to i [] j h = h
  chain_down R S to i (k ∷ ks) j h = (to i k h.0, chain_down R S to k ks j h.1)

  chain_up : (R S : ℕ → ℕ → Type 0) → ((i j : ℕ) → S i j → R i j) → (i : ℕ) (ks : List ℕ) (j : ℕ)
      → numbered.Chain S i ks j → depends.IsChain R i ks j
  chain_up R S to i [] j h = h
  chain_up R S to i (k ∷ ks) j h = (to i k h.0, chain_up R S to k ks j h.1)

  module _ (f : numbered_instruction.Instruction → Bool) (g : text.Instruction → Bool)
      (passes : (labels : List Name) (i : text.Instruction)
      → f (lowered_instruction labels i) ≡ g i) where
    feeds_down : (i j : ℕ) → depends.Feeds g at i j → numbered.FeedsOnward f by_number i j
    feeds_down i j (pass, (p, reads, last)) = (
      is_true f g passes j ∙ pass,
      (
        lowered_slot p,
        (fits depends.IsOperand numbered.IsOperand operand j).down p reads,
        last_down p i j last,
      ),
    )

    feeds_up : (i j : ℕ) → numbered.FeedsOnward f by_number i j → depends.Feeds g at i j
    feeds_up i j (pass, (q, reads, last)) = (
      sym (is_true f g passes j) ∙ pass,
      (
        raised_slot q,
        (fits depends.IsOperand numbered.IsOperand operand j).up q reads,
        last_up q i j last,
      ),
    )

    reaches_down : (i : ℕ) (p : Slot) (j : ℕ) → depends.Reaches g at i p j
        → numbered.WriteReaches f by_number i (lowered_slot p) j
    reaches_down i p j h = record {
      writer = h.writer;
      through = h.through;
      chain = chain_down (depends.Feeds g at) (numbered.FeedsOnward f by_number) feeds_down i
          h.through h.writer h.chain;
      writes = last_down p h.writer j h.writes;
    }

    reaches_up : (i : ℕ) (q : Resource) (j : ℕ) → numbered.WriteReaches f by_number i q j
        → depends.Reaches g at i (raised_slot q) j
    reaches_up i q j h = record {
      writer = h.writer;
      through = h.through;
      chain = chain_up (depends.Feeds g at) (numbered.FeedsOnward f by_number) feeds_up i
          h.through h.writer h.chain;
      writes = last_up q h.writer j h.writes;
    }

    reached : (P : text.Instruction → Slot → Type 0)
        (Q : numbered_instruction.Instruction → Resource → Type 0)
        → ((labels : List Name) (i : text.Instruction)
        → Fits (P i) (Q (lowered_instruction labels i)))
        → (i j : ℕ)
        → numbered.LoadReaches f Q by_number i j ↔ depends.LoadReaches g P at i j
    reached P Q alike i j = (
      λ h. (
        sym (is_true machine.is_load named.is_load loading i) ∙ h.0,
        (raised_slot h.1.0, (fits P Q alike j).up h.1.0 h.1.1, reaches_up i h.1.0 j h.1.2),
      ),
      λ h. (
        is_true machine.is_load named.is_load loading i ∙ h.0,
        (lowered_slot h.1.0, (fits P Q alike j).down h.1.0 h.1.1, reaches_down i h.1.0 j h.1.2),
      ),
    )

  behind_branch : (i j : ℕ) → numbered.IsCtrl by_number i j ↔ depends.IsCtrl at i j
  behind_branch i j = (
    λ h. (
      sym (is_true numbered.is_event depends.is_event event j) ∙ h.0,
      (
        h.1.0,
        h.1.1,
        sym (is_true machine.is_branch named.is_branch branching h.1.0) ∙ h.1.2,
        (reached numbered.is_no_access depends.is_link link depends.IsOperand numbered.IsOperand
            operand i h.1.0).0 h.1.3,
      ),
    ),
    λ h. (
      is_true numbered.is_event depends.is_event event j ∙ h.0,
      (
        h.1.0,
        h.1.1,
        is_true machine.is_branch named.is_branch branching h.1.0 ∙ h.1.2,
        (reached numbered.is_no_access depends.is_link link depends.IsOperand numbered.IsOperand
            operand i h.1.0).1 h.1.3,
      ),
    ),
  )

  behind_isync : (i j : ℕ) → numbered.IsCtrlIsync by_number i j ↔ depends.IsCtrlIsync at i j
  behind_isync i j = (
    λ h. (
      sym (is_true numbered.is_event depends.is_event event j) ∙ h.0,
      (
        h.1.0,
        h.1.1,
        sym (is_true numbered.is_isync depends.is_isync isync h.1.0) ∙ h.1.2,
        (behind_branch i h.1.0).0 h.1.3,
      ),
    ),
    λ h. (
      is_true numbered.is_event depends.is_event event j ∙ h.0,
      (
        h.1.0,
        h.1.1,
        is_true numbered.is_isync depends.is_isync isync h.1.0 ∙ h.1.2,
        (behind_branch i h.1.0).1 h.1.3,
      ),
    ),
  )

  pub depend_alike : DependAlike by_number at
  depend_alike = record {
    addr = reached numbered.is_no_access depends.is_link link depends.IsAddressRegister
        numbered.IsAddressRegister address;
    «data» = reached numbered.is_no_access depends.is_link link depends.IsStoredRegister
        numbered.IsStoredRegister stored;
    ctrl = behind_branch;
    ctrlisync = behind_isync;
    need = reached numbered.is_narrow depends.is_link_of_need link_of_need
        depends.IsStoredRegister numbered.IsStoredRegister stored;
  }
