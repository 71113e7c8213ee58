-- Whether one instruction of a run depends on another is decided, where the instructions behind some
-- index read nothing.
use Rattle.std.proofs.Common.{◌≡◌, ◌⊎◌, inl, inr, ℕ, ◌<◌, Bool, IsTrue, List, [], ◌∷◌, ◌++◌, refl, sym, ap, subst}
use Rattle.text_values.specs.declared.instruction.Instruction.{Instruction}
use Rattle.text_values.specs.declared.instruction.Instruction.TheVariants.{LoadImmediate, Move, AddImmediate, Compute, Load, LoadIndexed, Store, StoreIndexed, Compare, CompareImmediate, BranchIf, Branch, Fence}
use Rattle.meaning.specs.Sets.{Path, Transitive}
use Rattle.meaning.specs.Machine.{is_load, is_branch}
use Rattle.meaning.specs.Dependencies.{Slot, Register, Cr0, IsWritten, IsAddressRegister, IsStoredRegister, IsOperand, is_link, is_link_of_need, is_isync, is_event, Instructions, IsLastWriter, Feeds, IsChain, Reaches, LoadReaches, IsAddr, IsData, IsNeed, IsCtrl, IsCtrlIsync}
use Rattle.meanings_exist.proofs.Decisions.{Decided, decided_as, not_decided, both_decided, either_decided, implied_decided, none_decided, test_decided, below_decided, same_number}
use Rattle.meanings_exist.proofs.Finite.{Finite, finite_as, finite_none, finite_one, finite_either, finite_below, some_decided, each_decided}
use Rattle.meanings_exist.proofs.Paths.{transitive_decided}

-- ---- slots

register_number : Slot → ℕ
register_number (Register r) = r
register_number Cr0 = 0

same_slot : (p q : Slot) → Decided (p ≡ q)
unfolding register_number
same_slot (Register r) (Register q) =
    decided_as (λ e. ap (λ (n : ℕ). Register n) e) (λ e. ap register_number e) (same_number r q)
same_slot (Register r) Cr0 = inr (λ e. let wrong : ⊥ = cc in wrong)
same_slot Cr0 (Register q) = inr (λ e. let wrong : ⊥ = cc in wrong)
same_slot Cr0 Cr0 = inl refl

written_or_not : (i : Instruction) (p : Slot) → Decided (IsWritten i p)
written_or_not (LoadImmediate d n) p = same_slot p (Register d)
written_or_not (Move d a) p = same_slot p (Register d)
written_or_not (AddImmediate d a n) p = same_slot p (Register d)
written_or_not (Compute o d a b) p = same_slot p (Register d)
written_or_not (Load d a) p = same_slot p (Register d)
written_or_not (LoadIndexed d a b) p = same_slot p (Register d)
written_or_not (Compare a b) p = same_slot p Cr0
written_or_not (CompareImmediate a n) p = same_slot p Cr0
written_or_not (Store d a) p = none_decided
written_or_not (StoreIndexed d a b) p = none_decided
written_or_not (BranchIf c l) p = none_decided
written_or_not (Branch l) p = none_decided
written_or_not (Fence f) p = none_decided

slot_is : (q : Slot) → Finite (λ p. p ≡ q)
slot_is q = finite_as (λ p. q ≡ p) (λ p. p ≡ q) (λ p e. sym e) (λ p e. sym e) (finite_one q)

slot_is_either : (q r : Slot) → Finite (λ p. (p ≡ q) ⊎ (p ≡ r))
slot_is_either q r = finite_either (λ p. p ≡ q) (λ p. p ≡ r) (slot_is q) (slot_is r)

no_slot : Finite (λ (p : Slot). ⊥)
no_slot = finite_none (λ p. ⊥) (λ p h. h)

pub address_registers : (i : Instruction) → Finite (IsAddressRegister i)
address_registers (Load d a) = slot_is (Register a)
address_registers (LoadIndexed d a b) = slot_is_either (Register a) (Register b)
address_registers (Store d a) = slot_is (Register a)
address_registers (StoreIndexed d a b) = slot_is_either (Register a) (Register b)
address_registers (LoadImmediate d n) = no_slot
address_registers (Move d a) = no_slot
address_registers (AddImmediate d a n) = no_slot
address_registers (Compute o d a b) = no_slot
address_registers (Compare a b) = no_slot
address_registers (CompareImmediate a n) = no_slot
address_registers (BranchIf c l) = no_slot
address_registers (Branch l) = no_slot
address_registers (Fence f) = no_slot

pub stored_registers : (i : Instruction) → Finite (IsStoredRegister i)
stored_registers (Store d a) = slot_is (Register d)
stored_registers (StoreIndexed d a b) = slot_is (Register d)
stored_registers (Load d a) = no_slot
stored_registers (LoadIndexed d a b) = no_slot
stored_registers (LoadImmediate d n) = no_slot
stored_registers (Move d a) = no_slot
stored_registers (AddImmediate d a n) = no_slot
stored_registers (Compute o d a b) = no_slot
stored_registers (Compare a b) = no_slot
stored_registers (CompareImmediate a n) = no_slot
stored_registers (BranchIf c l) = no_slot
stored_registers (Branch l) = no_slot
stored_registers (Fence f) = no_slot

pub operands : (i : Instruction) → Finite (IsOperand i)
operands (Move d a) = slot_is (Register a)
operands (AddImmediate d a n) = slot_is (Register a)
operands (Compute o d a b) = slot_is_either (Register a) (Register b)
operands (Compare a b) = slot_is_either (Register a) (Register b)
operands (CompareImmediate a n) = slot_is (Register a)
operands (BranchIf c l) = slot_is Cr0
operands (LoadImmediate d n) = no_slot
operands (Load d a) = no_slot
operands (LoadIndexed d a b) = no_slot
operands (Store d a) = no_slot
operands (StoreIndexed d a b) = no_slot
operands (Branch l) = no_slot
operands (Fence f) = no_slot

-- ---- writers

module _ (at : Instructions) where
  last_or_not : (p : Slot) (i j : ℕ) → Decided (IsLastWriter at p i j)
  last_or_not p i j =
      decided_as
      (λ h. record { before = h.0; writes = h.1.0; last = λ k later lt w. h.1.1 k lt later w })
      (λ w. (w.before, (w.writes, λ k lt later is. w.last k later lt is)))
      (both_decided (below_decided i j)
      (both_decided (written_or_not (at i) p)
      (each_decided (λ k. k < j) (λ k. i < k → IsWritten (at k) p → ⊥) (finite_below j)
      (λ k lt. implied_decided (below_decided i k) (not_decided (written_or_not (at k) p))))))

  module _ (passes : Instruction → Bool) where
    feeds_or_not : (i j : ℕ) → Decided (Feeds passes at i j)
    feeds_or_not i j =
        decided_as (λ h. (h.0, h.1)) (λ h. (h.0, h.1))
        (both_decided (test_decided (passes (at j)))
        (some_decided (IsOperand (at j)) (λ p. IsLastWriter at p i j) (operands (at j))
        (λ p reads. last_or_not p i j)))

    -- a chain is a path, or has no link
    to_path : (i : ℕ) (ks : List ℕ) (j : ℕ) → IsChain (Feeds passes at) i ks j
        → (i ≡ j) ⊎ Transitive (Feeds passes at) i j
    to_path i [] j chain = inl chain
    to_path i (k ∷ ks) j chain = elim (to_path k ks j chain.1) [
      | inl e ↦ inr ([], subst (λ (n : ℕ). Feeds passes at i n) e chain.0)
      | inr path ↦ inr (k ∷ path.0, (chain.0, path.1))
    ]

    from_path : (i : ℕ) (ks : List ℕ) (j : ℕ) → Path (Feeds passes at) i ks j
        → IsChain (Feeds passes at) i (ks ++ j ∷ []) j
    from_path i [] j path = (path, refl)
    from_path i (k ∷ ks) j path = (path.0, from_path k ks j path.1)

    module _ (n : ℕ) (read : (j : ℕ) (p : Slot) → IsOperand (at j) p → j < n) where
      abbrev HasChain : ℕ → ℕ → Type 0
      HasChain i j = (ks : List ℕ) × IsChain (Feeds passes at) i ks j

      chain_or_not : (i j : ℕ) → Decided (HasChain i j)
      chain_or_not i j =
          decided_as from (λ h. to_path i h.0 j h.1)
          (either_decided (same_number i j)
          (transitive_decided (Feeds passes at) below.things
          (λ a b h. (below.exact b).1 (read b h.1.0 h.1.1)) feeds_or_not i j))
        where
          below : Finite (λ k. k < n)
          below = finite_below n

          from : (i ≡ j) ⊎ Transitive (Feeds passes at) i j → HasChain i j
          from (inl e) = ([], e)
          from (inr path) = (path.0 ++ j ∷ [], from_path i path.0 j path.1)

      reaches_or_not : (i : ℕ) (p : Slot) (j : ℕ) → Decided (Reaches passes at i p j)
      reaches_or_not i p j =
          decided_as
          (λ h. record { writer = h.0; through = h.2.0.0; chain = h.2.0.1; writes = h.2.1 })
          (λ r. (r.writer, r.writes.before, ((r.through, r.chain), r.writes)))
          (some_decided (λ w. w < j) (λ w. HasChain i w × IsLastWriter at p w j) (finite_below j)
          (λ w lt. both_decided (chain_or_not i w) (last_or_not p w j)))

      load_reaches_or_not : (Reads : Instruction → Slot → Type 0)
          → ((i : Instruction) → Finite (Reads i)) → (i j : ℕ)
          → Decided (LoadReaches passes Reads at i j)
      load_reaches_or_not Reads slots i j =
          both_decided (test_decided (is_load (at i)))
          (some_decided (Reads (at j)) (λ p. Reaches passes at i p j) (slots (at j))
          (λ p reads. reaches_or_not i p j))

-- ---- dependencies

module _ (at : Instructions) (n : ℕ) (read : (j : ℕ) (p : Slot) → IsOperand (at j) p → j < n)
  where
    pub addr_or_not : (i j : ℕ) → Decided (IsAddr at i j)
    addr_or_not = load_reaches_or_not at is_link n read IsAddressRegister address_registers

    pub data_or_not : (i j : ℕ) → Decided (IsData at i j)
    data_or_not = load_reaches_or_not at is_link n read IsStoredRegister stored_registers

    pub need_or_not : (i j : ℕ) → Decided (IsNeed at i j)
    need_or_not = load_reaches_or_not at is_link_of_need n read IsStoredRegister stored_registers

    pub ctrl_or_not : (i j : ℕ) → Decided (IsCtrl at i j)
    ctrl_or_not i j =
        decided_as (λ h. (h.0, (h.1.0, h.1.1, h.1.2.0, h.1.2.1)))
        (λ h. (h.0, (h.1.0, h.1.1, (h.1.2, h.1.3))))
        (both_decided (test_decided (is_event (at j)))
        (some_decided (λ b. b < j)
        (λ b. IsTrue (is_branch (at b)) × LoadReaches is_link IsOperand at i b) (finite_below j)
        (λ b lt. both_decided (test_decided (is_branch (at b)))
        (load_reaches_or_not at is_link n read IsOperand operands i b))))

    pub ctrl_isync_or_not : (i j : ℕ) → Decided (IsCtrlIsync at i j)
    ctrl_isync_or_not i j =
        decided_as (λ h. (h.0, (h.1.0, h.1.1, h.1.2.0, h.1.2.1)))
        (λ h. (h.0, (h.1.0, h.1.1, (h.1.2, h.1.3))))
        (both_decided (test_decided (is_event (at j)))
        (some_decided (λ f. f < j) (λ f. IsTrue (is_isync (at f)) × IsCtrl at i f)
        (finite_below j)
        (λ f lt. both_decided (test_decided (is_isync (at f))) (ctrl_or_not i f))))
