-- One step of the loop that notes from which loads each event is behind a branch or an `isync`.
use Rattle.std.proofs.Common.{ℕ, suc, ◌≡◌, ◌<◌, ◌+◌, ◌↔◌, inl, inr, Bool, true, false, List, refl, sym, subst, ◌∙◌, arith, IsTrue, length, set, if◌then◌else◌, add-one}
use Rattle.std.specs.Int.RustNames.{bit_or}
use Rattle.std.proofs.lemmas.List.{length-set}
use Rattle.std.proofs.lemmas.Bool.{false≢true, cases_eq}
use Rattle.thread_runs.specs.declared.instruction.Instruction.{Instruction}
use Rattle.thread_runs.specs.declared.instruction.Instruction.TheVariants.{Immediate, Move, AddImmediate, Operate, Load, LoadIndexed, Store, StoreIndexed, Compare, CompareImmediate, Branch, Jump, Fence}
use Rattle.taints.specs.declared.taints.Taints.{Taints}
use Rattle.dataflow.specs.declared.pass.Control.{Control}
use Rattle.thread_runs.specs.Machine.{is_load, is_branch}
use Rattle.taints.specs.Chains.{Executed, Resource, IsOperand, event_index, is_event, is_no_access, is_isync, LoadReaches, IsCtrl}
use Rattle.bit_rows.specs.Relation.{Bit}
use Rattle.bit_rows.proofs.Bits.{Bit-zero, Bit-or}
use Rattle.taints.specs.Taints.{IsInFile, AreTaints, AreLoadWordsOf, HasRegistersInFile, IsWrittenBetween, passes_of, operand_word}
use Rattle.dataflow.specs.Control.{branched_after, synchronised_after, steered, control_of, control_word, clean_control}
use Rattle.taints.proofs.TaintSteps.{operand_word-union, taints_first}
use Rattle.taints.proofs.Cleaning.{no_word, written_first, written_next}
use Rattle.taints.proofs.ReachLoop.{Found, union_found, taints_next, columns_first, columns_event, columns_other, place_event, place_other, load_place}

-- the load reaches the CR0 of a conditional branch before the place
abbrev pub BehindBranch : Executed → ℕ → ℕ → Type 0
BehindBranch f i n =
    (b : ℕ) × (b < n) × IsTrue (is_branch (f b)) × LoadReaches is_no_access IsOperand f i b

-- an `isync` before the place is so behind the load
abbrev pub BehindIsync : Executed → ℕ → ℕ → Type 0
BehindIsync f i n = (s : ℕ) × (s < n) × IsTrue (is_isync (f s)) × IsCtrl f i s

-- the word has the loads of which the relation holds at a place
abbrev pub Has : (Executed → ℕ → ℕ → Type 0) → Executed → ℕ → ℕ → Type 0
Has R f n word = (e : ℕ) → Bit word e ↔ Found R f n e

pub record IsSteered (f : Executed) (n : ℕ) (c : Control) : Type 0 where
  pub taints : AreTaints (passes_of false) f n c.taints
  pub written : IsWrittenBetween f 0 n c.taints
  pub branched : Has BehindBranch f n c.branched
  pub synchronised : Has BehindIsync f n c.synchronised

branched_next : (f : Executed) (n : ℕ) (t : Taints) (word : ℕ)
    → ((p : Resource) → IsOperand (f n) p → IsInFile p) → AreTaints (passes_of false) f n t
    → Has BehindBranch f n word → Has BehindBranch f (suc n) (branched_after (f n) t word)
branched_next f n t word inside taints old e = go (is_branch (f n)) refl
  where
    here : Bit (operand_word (f n) t) e ↔ Found (LoadReaches is_no_access IsOperand) f n e
    here =
        union_found false IsOperand f n t (operand_word (f n) t) inside taints
        (operand_word-union (f n) t) e

    earlier : Found BehindBranch f n e → Found BehindBranch f (suc n) e
    earlier x =
        let (i, index, y) = x in
        let (b, lt, is, reaches) = y in (i, index, (b, omega (arith, lt), is, reaches))

    go : (x : Bool) → is_branch (f n) ≡ x
        → Bit (if x then bit_or word (operand_word (f n) t) else word) e
        ↔ Found BehindBranch f (suc n) e
    go true is = (
      (λ bit. elim ((Bit-or word (operand_word (f n) t) e).0 bit) [
        | inl y ↦ earlier ((old e).0 y)
        | inr y ↦ let (i, index, reaches) = here.0 y in (i, index, (n, omega arith, is, reaches))
      ]),
      (λ x. let (i, index, y) =
          x in let (b, lt, br, z) =
          y in (Bit-or word (operand_word (f n) t) e).1 (elim (cases_eq b n) [
            | inl same ↦ inr (here.1 (
              i,
              index,
              subst (λ (k : ℕ). LoadReaches is_no_access IsOperand f i k) same z,
            ))
            | inr ne ↦ inl ((old e).1 (i, index, (b, omega (arith, lt), br, z)))
          ])),
    )
    go false is = (
      (λ bit. earlier ((old e).0 bit)),
      (λ x. let (i, index, y) = x in let (b, lt, br, z) = y in elim (cases_eq b n) [
        | inl same ↦ absurd (false≢true
            (sym is ∙ subst (λ (k : ℕ). is_branch (f k) ≡ true) same br))
        | inr ne ↦ (old e).1 (i, index, (b, omega (arith, lt), br, z))
      ]),
    )

isync_is_event : (i : Instruction) → is_isync i ≡ true → is_event i ≡ true
isync_is_event (Fence f) is = refl
isync_is_event (Immediate d m) is = absurd (false≢true is)
isync_is_event (Move d a) is = absurd (false≢true is)
isync_is_event (AddImmediate d a m) is = absurd (false≢true is)
isync_is_event (Operate o d a b) is = absurd (false≢true is)
isync_is_event (Load d a) is = refl
isync_is_event (LoadIndexed d a b) is = refl
isync_is_event (Store d a) is = refl
isync_is_event (StoreIndexed d a b) is = refl
isync_is_event (Compare a b) is = absurd (false≢true is)
isync_is_event (CompareImmediate a m) is = absurd (false≢true is)
isync_is_event (Branch c m) is = absurd (false≢true is)
isync_is_event (Jump m) is = absurd (false≢true is)

synchronised_next : (f : Executed) (n : ℕ) (branched word : ℕ) → Has BehindBranch f n branched
    → Has BehindIsync f n word → Has BehindIsync f (suc n) (synchronised_after (f n) branched word)
synchronised_next f n branched word through old e = go (is_isync (f n)) refl
  where
    earlier : Found BehindIsync f n e → Found BehindIsync f (suc n) e
    earlier x =
        let (i, index, y) = x in let (s, lt, is, z) = y in (i, index, (s, omega (arith, lt), is, z))

    go : (x : Bool) → is_isync (f n) ≡ x
        → Bit (if x then bit_or word branched else word) e ↔ Found BehindIsync f (suc n) e
    go true is = (
      (λ bit. elim ((Bit-or word branched e).0 bit) [
        | inl y ↦ earlier ((old e).0 y)
        | inr y ↦
            let (i, index, behind) = (through e).0 y in
            (i, index, (n, omega arith, is, (isync_is_event (f n) is, behind)))
      ]),
      (λ x. let (i, index, y) =
          x in let (s, lt, sync, z) = y in (Bit-or word branched e).1 (elim (cases_eq s n) [
            | inl same ↦ inr ((through e).1
                (i, index, subst (λ (k : ℕ). BehindBranch f i k) same z.1))
            | inr ne ↦ inl ((old e).1 (i, index, (s, omega (arith, lt), sync, z)))
          ])),
    )
    go false is = (
      (λ bit. earlier ((old e).0 bit)),
      (λ x. let (i, index, y) = x in let (s, lt, sync, z) = y in elim (cases_eq s n) [
        | inl same ↦ absurd (false≢true (sym is
            ∙ subst (λ (k : ℕ). is_isync (f k) ≡ true) same sync))
        | inr ne ↦ (old e).1 (i, index, (s, omega (arith, lt), sync, z))
      ]),
    )

steered_first : (f : Executed) → IsSteered f 0 clean_control
steered_first f = record {
  taints = taints_first (passes_of false) f clean_control.taints no_word;
  written = written_first f;
  branched =
      λ e. (
        (λ bit. absurd (Bit-zero e bit)),
        (λ x. let (i, index, y) = x in let (b, lt, br, z) = y in absurd (omega (arith, lt))),
      );
  synchronised =
      λ e. (
        (λ bit. absurd (Bit-zero e bit)),
        (λ x. let (i, index, y) = x in let (s, lt, sync, z) = y in absurd (omega (arith, lt))),
      );
}

steered_next : (f : Executed) (n : ℕ) (c : Control) (index : ℕ) (i : Instruction) → i ≡ f n
    → HasRegistersInFile i → (is_load i ≡ true → index < 128) → index ≡ event_index f n → IsSteered f n c
    → IsSteered f (suc n) (steered i index c)
steered_next f n c index i same inside fits here x = record {
  taints = taints_next false f n c.taints index i same inside fits here x.written.height x.taints;
  written = written_next f n i _ c.taints same x.written;
  branched =
      subst (λ (j : Instruction). Has BehindBranch f (suc n) (branched_after j c.taints c.branched))
      (sym same)
      (branched_next f n c.taints c.branched
      (λ a operand.
      inside.operands a (subst (λ (j : Instruction). IsOperand j a) (sym same) operand))
      x.taints x.branched);
  synchronised =
      subst
      (λ (j : Instruction).
      Has BehindIsync f (suc n) (synchronised_after j c.branched c.synchronised))
      (sym same)
      (synchronised_next f n c.branched c.synchronised x.branched x.synchronised);
}

-- what the word of an event holds
behind : (synchronised : Bool) (f : Executed) (n : ℕ) (c : Control) → is_event (f n) ≡ true
    → IsSteered f n c → Has (control_of synchronised) f n (control_word synchronised c)
behind true f n c event x e = (
  (λ bit. let (i, index, y) = (x.synchronised e).0 bit in (i, index, (event, y))),
  (λ y. let (i, index, z) = y in (x.synchronised e).1 (i, index, z.1)),
)
behind false f n c event x e = (
  (λ bit. let (i, index, y) = (x.branched e).0 bit in (i, index, (event, y))),
  (λ y. let (i, index, z) = y in (x.branched e).1 (i, index, z.1)),
)

-- what holds in the loop
pub record IsControlled (synchronised : Bool) (f : Executed) (n : ℕ) (c : Control) (words : List ℕ)
    (index : ℕ) : Type 0 where
  pub steered : IsSteered f n c
  pub width : length words ≡ 128
  pub here : index ≡ event_index f n
  pub columns : AreLoadWordsOf (control_of synchronised) f n words

pub controlled_first : (synchronised : Bool) (f : Executed) (c : Control) (words : List ℕ)
    → c ≡ clean_control → length words ≡ 128 → IsControlled synchronised f 0 c words 0
controlled_first synchronised f c words none width =
    subst (λ (d : Control). IsControlled synchronised f 0 d words 0) (sym none) (record {
      steered = steered_first f;
      width = width;
      here = refl;
      columns = columns_first (control_of synchronised) f words;
    })

pub controlled_event : (synchronised : Bool) (f : Executed) (n : ℕ) (c : Control) (words : List ℕ)
    (index : ℕ) (i : Instruction) → i ≡ f n → is_event i ≡ true → event_index f n < 128
    → HasRegistersInFile i
    → IsControlled synchronised f n c words index
    → IsControlled synchronised f (n + 1) (steered i index c)
    (set words index (control_word synchronised c)) (index + 1)
controlled_event synchronised f n c words index i same event lt inside x =
    let event_here : is_event (f n) ≡ true = subst (λ (j : Instruction). is_event j ≡ true) same event in
    rw add-one (record {
      steered =
          steered_next f n c index i same inside (λ load. omega (arith, lt, x.here)) x.here
          x.steered;
      width = length-set words index (control_word synchronised c) ∙ x.width;
      here = omega (arith, x.here, place_event f n event_here);
      columns =
          subst
          (λ (k : ℕ). AreLoadWordsOf (control_of synchronised) f (suc n)
          (set words k (control_word synchronised c)))
          (sym x.here)
          (columns_event (control_of synchronised) f n words (control_word synchronised c)
          event_here (omega (arith, lt, x.width))
          (behind synchronised f n c event_here x.steered) x.columns);
    })

pub controlled_other : (synchronised : Bool) (f : Executed) (n : ℕ) (c : Control) (words : List ℕ)
    (index : ℕ) (i : Instruction) → i ≡ f n → is_event i ≡ false → HasRegistersInFile i
    → IsControlled synchronised f n c words index
    → IsControlled synchronised f (n + 1) (steered i index c) words index
controlled_other synchronised f n c words index i same event inside x =
    let none_here : is_event (f n) ≡ false = subst (λ (j : Instruction). is_event j ≡ false) same event in
    rw add-one (record {
      steered = steered_next f n c index i same inside (load_place i index event) x.here x.steered;
      width = x.width;
      here = omega (arith, x.here, place_other f n none_here);
      columns = columns_other (control_of synchronised) f n words none_here x.columns;
    })

pub controlled_as : (synchronised : Bool) (f : Executed) (n : ℕ) (c d : Control) (xs ys : List ℕ)
    (k m : ℕ) → d ≡ c → ys ≡ xs → m ≡ k → IsControlled synchronised f n c xs k
    → IsControlled synchronised f n d ys m
controlled_as synchronised f n c d xs ys k m p q r x =
    subst (λ (v : Control). IsControlled synchronised f n v ys m) (sym p) (subst
    (λ (zs : List ℕ). IsControlled synchronised f n c zs m) (sym q)
    (subst (λ (l : ℕ). IsControlled synchronised f n c xs l) (sym r) x))
