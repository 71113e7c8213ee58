-- What reaches a place, by one instruction more.
use Rattle.std.proofs.Common.{ℕ, zero, suc, ◌≡◌, ◌<◌, ◌⊎◌, ◌↔◌, inl, inr, Bool, true, false, refl, sym, ap, subst, ◌∙◌, arith, IsTrue, length, get_or, set, get_or-set_same, get_or-set_other, if◌then◌else◌}
use Rattle.std.specs.Int.{bit_at, w128}
use Rattle.std.specs.Int.RustNames.{bit_or}
use Rattle.std.proofs.lemmas.List.{length-set}
use Rattle.std.proofs.lemmas.Nat.Bits.{bit_at-zero, bit_at_set_same, bit_at_set_other}
use Rattle.thread_runs.specs.declared.instruction.Instruction.{Instruction}
use Rattle.thread_runs.specs.declared.instruction.Instruction.TheVariants.{Immediate, Move, AddImmediate, Operate, Load, LoadIndexed, Store, StoreIndexed, Compare, CompareImmediate, Branch, Jump, Fence}
use Rattle.std.proofs.lemmas.Bool.{false≢true, cases_eq}
use Rattle.taints.specs.declared.taints.Taints.{Taints}
use Rattle.thread_runs.specs.Machine.{is_load}
use Rattle.taints.specs.Chains.{Executed, Resource, Register, Cr0, IsOperand, WritesTo, event_index}
use Rattle.bit_rows.specs.Relation.{Bit}
use Rattle.bit_rows.proofs.Bits.{Bit-zero, Bit-or, zero_or_one}
use Rattle.taints.specs.Taints.{TaintOf, IsTaintStep, IsUnion, IsOrigin, IsInFile, AreTaints, word_of, passes_of, operand_word, bit_word, origin_word, with_word, taints_after, reads_of, read_word}
use Rattle.taints.proofs.Agreement.{reaches_more}
use Rattle.taints.proofs.Inversion.{through_last, before_last, from_through, none_first, is_written, Through}

module _ (passes : Instruction → Bool) (at : Executed) where
  -- what reaches the place that the last instruction wrote
  taint_written : (n : ℕ) (p : Resource) (e : ℕ) → WritesTo (at n) p
      → TaintOf passes at (suc n) p e
      ↔ ((IsTrue (is_load (at n)) × (event_index at n ≡ e))
      ⊎ (IsTrue (passes (at n))
      × ((a : Resource) × IsOperand (at n) a × TaintOf passes at n a e)))
  taint_written n p e here = (forth, back)
    where
      split : (i : ℕ) → IsTrue (is_load (at i)) → event_index at i ≡ e → Through passes at i n
          → (IsTrue (is_load (at n)) × (event_index at n ≡ e))
          ⊎ (IsTrue (passes (at n))
          × ((a : Resource) × IsOperand (at n) a × TaintOf passes at n a e))
      split i load here_is (inl same) =
          inl (
            subst (λ (k : ℕ). IsTrue (is_load (at k))) same load,
            subst (λ (k : ℕ). event_index at k ≡ e) same here_is,
          )
      split i load here_is (inr t) =
          let (ok, rest) = t in
          let (a, operand, y) = rest in inr (ok, (a, operand, (i, load, here_is, y)))

      forth : TaintOf passes at (suc n) p e
          → (IsTrue (is_load (at n)) × (event_index at n ≡ e))
          ⊎ (IsTrue (passes (at n))
          × ((a : Resource) × IsOperand (at n) a × TaintOf passes at n a e))
      forth t =
          let (i, load, here_is, x) = t in
          split i load here_is (through_last passes at i p n here x)

      back : (IsTrue (is_load (at n)) × (event_index at n ≡ e))
          ⊎ (IsTrue (passes (at n))
          × ((a : Resource) × IsOperand (at n) a × TaintOf passes at n a e))
          → TaintOf passes at (suc n) p e
      back (inl t) = (n, t.0, t.1, from_through passes at n p n here (inl refl))
      back (inr t) =
          let (ok, rest) = t in
          let (a, operand, taint) = rest in let (i, load, here_is, x) = taint in
          (i, load, here_is, from_through passes at i p n here (inr (ok, (a, operand, x))))

  taint_kept : (n : ℕ) (p : Resource) (e : ℕ) → (WritesTo (at n) p → ⊥)
      → TaintOf passes at (suc n) p e ↔ TaintOf passes at n p e
  taint_kept n p e not_here = (
    (λ t.
        let (i, load, here_is, x) = t in
        (i, load, here_is, before_last passes at i p n not_here x)),
    (λ t.
        let (i, load, here_is, x) = t in
        (i, load, here_is, reaches_more passes at i p n not_here x)),
  )

  pub taints_first : (t : Taints) → ((p : Resource) → IsInFile p → word_of t p ≡ 0)
      → AreTaints passes at zero t
  taints_first t empty p within e = (
    (λ bit. absurd (Bit-zero e (subst (λ (w : ℕ). Bit w e) (empty p within) bit))),
    (λ taint. let (i, load, here_is, x) = taint in absurd (none_first passes at i p x)),
  )

-- one instruction more, whose operands are within the file of registers
module _ (narrow : Bool) (at : Executed) where
  pub taints_more : (n : ℕ) (t u : Taints) → ((a : Resource) → IsOperand (at n) a → IsInFile a)
      → AreTaints (passes_of narrow) at n t → IsTaintStep narrow (at n) (event_index at n) t u
      → AreTaints (passes_of narrow) at (suc n) u
  taints_more n t u inside old step p within e = go (is_written (at n) p)
    where
      go : WritesTo (at n) p ⊎ (WritesTo (at n) p → ⊥)
          → Bit (word_of u p) e ↔ TaintOf (passes_of narrow) at (suc n) p e
      go (inl here) =
          let (f, g) = step.written p within here e in
          let (f', g') = taint_written (passes_of narrow) at n p e here in (
            (λ bit. g' (elim (f bit) [
              | inl own ↦ inl own
              | inr s ↦
                  let (ok, rest) = s in
                  let (a, operand, b) = rest in
                  inr (ok, (a, operand, (old a (inside a operand) e).0 b))
            ])),
            (λ taint. g (elim (f' taint) [
              | inl own ↦ inl own
              | inr s ↦
                  let (ok, rest) = s in
                  let (a, operand, b) = rest in
                  inr (ok, (a, operand, (old a (inside a operand) e).1 b))
            ])),
          )
      go (inr not_here) =
          let (f', g') = taint_kept (passes_of narrow) at n p e not_here in
          let same = step.kept p not_here in (
            (λ bit. g' ((old p within e).0 (subst (λ (w : ℕ). Bit w e) same bit))),
            (λ taint. subst (λ (w : ℕ). Bit w e) (sym same) ((old p within e).1 (f' taint))),
          )

-- the bits of the places that an instruction reads
pub one_place : (t : Taints) (a : Resource) (e : ℕ)
    → Bit (word_of t a) e ↔ ((p : Resource) × (p ≡ a) × Bit (word_of t p) e)
one_place t a e = ((λ b. (a, refl, b)), (λ x. subst (λ (p : Resource). Bit (word_of t p) e) x.1 x.2))

pub two_places : (t : Taints) (a b : Resource) (e : ℕ)
    → Bit (bit_or (word_of t a) (word_of t b)) e
    ↔ ((p : Resource) × ((p ≡ a) ⊎ (p ≡ b)) × Bit (word_of t p) e)
two_places t a b e = (
  (λ x. elim ((Bit-or (word_of t a) (word_of t b) e).0 x)
      [ inl y ↦ (a, inl refl, y) | inr y ↦ (b, inr refl, y) ]),
  (λ x. (Bit-or (word_of t a) (word_of t b) e).1 (elim x.1 [
    | inl same ↦ inl (subst (λ (p : Resource). Bit (word_of t p) e) same x.2)
    | inr same ↦ inr (subst (λ (p : Resource). Bit (word_of t p) e) same x.2)
  ])),
)

pub no_places : (t : Taints) (e : ℕ) → Bit 0 e ↔ ((p : Resource) × ⊥ × Bit (word_of t p) e)
no_places t e = ((λ x. absurd (Bit-zero e x)), (λ x. absurd x.1))

-- an instruction that is a load, or passes its operands' bits on, or none
pub of_load : (narrow : Bool) (i : Instruction) (index : ℕ) (t : Taints) (word : ℕ)
    → is_load i ≡ true → (passes_of narrow i ≡ true → ⊥)
    → ((e : ℕ) → Bit word e ↔ (index ≡ e)) → (e : ℕ) → Bit word e ↔ IsOrigin narrow i index t e
of_load narrow i index t word load not_passed own e = (
  (λ b. inl (load, (own e).0 b)),
  (λ x. elim x [ inl y ↦ (own e).1 y.1 | inr y ↦ absurd (not_passed y.0) ]),
)

pub of_operands : (narrow : Bool) (i : Instruction) (index : ℕ) (t : Taints) (word : ℕ)
    → is_load i ≡ false → passes_of narrow i ≡ true
    → IsUnion IsOperand i t word → (e : ℕ) → Bit word e ↔ IsOrigin narrow i index t e
of_operands narrow i index t word not_load passed u e = (
  (λ b. inr (passed, (u e).0 b)),
  (λ x. elim x [
    | inl y ↦ absurd (false≢true (sym not_load ∙ y.0))
    | inr y ↦ (u e).1
        y.1
  ]),
)

pub of_none : (narrow : Bool) (i : Instruction) (index : ℕ) (t : Taints) → is_load i ≡ false
    → (passes_of narrow i ≡ true → ⊥)
    → (e : ℕ) → Bit 0 e ↔ IsOrigin narrow i index t e
of_none narrow i index t not_load not_passed e = (
  (λ b. absurd (Bit-zero e b)),
  (λ x. elim x [
    | inl y ↦ absurd (false≢true (sym not_load ∙ y.0))
    | inr y ↦ absurd
        (not_passed y.0)
  ]),
)

pub load_blocks : (narrow : Bool) (i : Instruction) → is_load i ≡ true → passes_of narrow i ≡ true
    → ⊥
load_blocks true (Load d a) l p = false≢true p
load_blocks true (LoadIndexed d a b) l p = false≢true p
load_blocks false (Load d a) l p = false≢true p
load_blocks false (LoadIndexed d a b) l p = false≢true p
load_blocks n (Immediate d m) l p = absurd (false≢true l)
load_blocks n (Move d a) l p = absurd (false≢true l)
load_blocks n (AddImmediate d a m) l p = absurd (false≢true l)
load_blocks n (Operate o d a b) l p = absurd (false≢true l)
load_blocks n (Store d a) l p = absurd (false≢true l)
load_blocks n (StoreIndexed d a b) l p = absurd (false≢true l)
load_blocks n (Compare a b) l p = absurd (false≢true l)
load_blocks n (CompareImmediate a m) l p = absurd (false≢true l)
load_blocks n (Branch c m) l p = absurd (false≢true l)
load_blocks n (Jump m) l p = absurd (false≢true l)
load_blocks n (Fence f) l p = absurd (false≢true l)

pub operand_word-union : (i : Instruction) (t : Taints) → IsUnion IsOperand i t (operand_word i t)
operand_word-union (Immediate d n) t e = no_places t e
operand_word-union (Move d a) t e = one_place t (Register a) e
operand_word-union (AddImmediate d a n) t e = one_place t (Register a) e
operand_word-union (Operate o d a b) t e = two_places t (Register a) (Register b) e
operand_word-union (Load d a) t e = no_places t e
operand_word-union (LoadIndexed d a b) t e = no_places t e
operand_word-union (Store d a) t e = no_places t e
operand_word-union (StoreIndexed d a b) t e = no_places t e
operand_word-union (Compare a b) t e = two_places t (Register a) (Register b) e
operand_word-union (CompareImmediate a n) t e = one_place t (Register a) e
operand_word-union (Branch c l) t e = one_place t Cr0 e
operand_word-union (Jump l) t e = no_places t e
operand_word-union (Fence f) t e = no_places t e

pub bit_word-bit : (k : ℕ) → k < 128 → (e : ℕ) → Bit (bit_word k) e ↔ (k ≡ e)
unfolding Bit
bit_word-bit k lt e = elim (cases_eq e k) [
  | inl same ↦ (
    (λ b. sym same),
    (λ x. subst (λ (j : ℕ). bit_at (bit_word k) j ≡ 1) (sym same)
        (bit_at_set_same w128 0 k lt)),
  )
  | inr ne ↦
      let off : bit_at (bit_word k) e ≡ 0 = bit_at_set_other w128 0 k lt e ne ∙ bit_at-zero e in
      ((λ b. absurd (zero_or_one _ off b)), (λ x. absurd (ne (sym x))))
]

pub origin_word-origin : (narrow : Bool) (i : Instruction) (k : ℕ) (t : Taints)
    → (is_load i ≡ true → k < 128) → (e : ℕ)
    → Bit (origin_word narrow i k t) e ↔ IsOrigin narrow i k t e
origin_word-origin narrow i k t lt e = go (is_load i) (passes_of narrow i) refl refl
  where
    go : (ld ps : Bool) → is_load i ≡ ld → passes_of narrow i ≡ ps
        → Bit (if ld then bit_word k else if ps then operand_word i t else 0) e
        ↔ IsOrigin narrow i k t e
    go true ps load p =
        of_load narrow i k t (bit_word k) load (load_blocks narrow i load)
        (bit_word-bit k (lt load)) e
    go false true load p =
        of_operands narrow i k t (operand_word i t) load p (operand_word-union i t) e
    go false false load p = of_none narrow i k t load (λ q. false≢true (sym p ∙ q)) e

register_word : (t : Taints) (d : ℕ) (w : ℕ) (p : Resource) → length t.registers ≡ 256 → IsInFile p
    → p ≡ Register d → word_of (record t { registers = set t.registers d w }) p ≡ w
register_word t d w (Register r) long within e = go r d within (inside r d e)
  where
    inside : (r d : ℕ) → Register r ≡ Register d → r ≡ d
    inside r d e = cc

    go : (r d : ℕ) → r < 256 → r ≡ d → get_or (set t.registers d w) r 0 ≡ w
    go r d lt e =
        subst (λ (j : ℕ). get_or (set t.registers d w) j 0 ≡ w) (sym e)
        (get_or-set_same t.registers d w 0 (omega arith))
register_word t d w Cr0 long within e = absurd cc

register_kept : (t : Taints) (d : ℕ) (w : ℕ) (p : Resource) → (p ≡ Register d → ⊥)
    → word_of (record t { registers = set t.registers d w }) p ≡ word_of t p
register_kept t d w (Register r) ne = get_or-set_other t.registers d r w 0 (λ e. ne (ap Register e))
register_kept t d w Cr0 ne = refl

compared_word : (t : Taints) (w : ℕ) (p : Resource) → p ≡ Cr0
    → word_of (record t { compared = w }) p ≡ w
compared_word t w (Register r) e = absurd cc
compared_word t w Cr0 e = refl

compared_kept : (t : Taints) (w : ℕ) (p : Resource) → (p ≡ Cr0 → ⊥)
    → word_of (record t { compared = w }) p ≡ word_of t p
compared_kept t w (Register r) ne = refl
compared_kept t w Cr0 ne = absurd (ne refl)

pub with_word-written : (i : Instruction) (w : ℕ) (t : Taints) (p : Resource)
    → length t.registers ≡ 256 → IsInFile p → WritesTo i p → word_of (with_word i w t) p ≡ w
with_word-written (Immediate d n) w t p long within e = register_word t d w p long within e
with_word-written (Move d a) w t p long within e = register_word t d w p long within e
with_word-written (AddImmediate d a n) w t p long within e = register_word t d w p long within e
with_word-written (Operate o d a b) w t p long within e = register_word t d w p long within e
with_word-written (Load d a) w t p long within e = register_word t d w p long within e
with_word-written (LoadIndexed d a b) w t p long within e = register_word t d w p long within e
with_word-written (Store d a) w t p long within e = absurd e
with_word-written (StoreIndexed d a b) w t p long within e = absurd e
with_word-written (Compare a b) w t p long within e = compared_word t w p e
with_word-written (CompareImmediate a n) w t p long within e = compared_word t w p e
with_word-written (Branch c l) w t p long within e = absurd e
with_word-written (Jump l) w t p long within e = absurd e
with_word-written (Fence f) w t p long within e = absurd e

pub with_word-kept : (i : Instruction) (w : ℕ) (t : Taints) (p : Resource) → (WritesTo i p → ⊥)
    → word_of (with_word i w t) p ≡ word_of t p
with_word-kept (Immediate d n) w t p ne = register_kept t d w p ne
with_word-kept (Move d a) w t p ne = register_kept t d w p ne
with_word-kept (AddImmediate d a n) w t p ne = register_kept t d w p ne
with_word-kept (Operate o d a b) w t p ne = register_kept t d w p ne
with_word-kept (Load d a) w t p ne = register_kept t d w p ne
with_word-kept (LoadIndexed d a b) w t p ne = register_kept t d w p ne
with_word-kept (Store d a) w t p ne = refl
with_word-kept (StoreIndexed d a b) w t p ne = refl
with_word-kept (Compare a b) w t p ne = compared_kept t w p ne
with_word-kept (CompareImmediate a n) w t p ne = compared_kept t w p ne
with_word-kept (Branch c l) w t p ne = refl
with_word-kept (Jump l) w t p ne = refl
with_word-kept (Fence f) w t p ne = refl

pub noted-step : (narrow : Bool) (i : Instruction) (k : ℕ) (t : Taints)
    → (is_load i ≡ true → k < 128) → length t.registers ≡ 256
    → IsTaintStep narrow i k t (taints_after narrow i k t)
noted-step narrow i k t lt long = record {
  written =
      λ p within here e. subst (λ (w : ℕ). Bit w e ↔ IsOrigin narrow i k t e)
      (sym (with_word-written i (origin_word narrow i k t) t p long within here))
      (origin_word-origin narrow i k t lt e);
  kept = λ p not_here. with_word-kept i (origin_word narrow i k t) t p not_here;
}

pub read_word-union : (stored : Bool) (i : Instruction) (t : Taints)
    → IsUnion (reads_of stored) i t (read_word stored i t)
read_word-union false (Load d a) t e = one_place t (Register a) e
read_word-union false (LoadIndexed d a b) t e = two_places t (Register a) (Register b) e
read_word-union false (Store d a) t e = one_place t (Register a) e
read_word-union false (StoreIndexed d a b) t e = two_places t (Register a) (Register b) e
read_word-union false (Immediate d n) t e = no_places t e
read_word-union false (Move d a) t e = no_places t e
read_word-union false (AddImmediate d a n) t e = no_places t e
read_word-union false (Operate o d a b) t e = no_places t e
read_word-union false (Compare a b) t e = no_places t e
read_word-union false (CompareImmediate a n) t e = no_places t e
read_word-union false (Branch c l) t e = no_places t e
read_word-union false (Jump l) t e = no_places t e
read_word-union false (Fence f) t e = no_places t e
read_word-union true (Store d a) t e = one_place t (Register d) e
read_word-union true (StoreIndexed d a b) t e = one_place t (Register d) e
read_word-union true (Load d a) t e = no_places t e
read_word-union true (LoadIndexed d a b) t e = no_places t e
read_word-union true (Immediate d n) t e = no_places t e
read_word-union true (Move d a) t e = no_places t e
read_word-union true (AddImmediate d a n) t e = no_places t e
read_word-union true (Operate o d a b) t e = no_places t e
read_word-union true (Compare a b) t e = no_places t e
read_word-union true (CompareImmediate a n) t e = no_places t e
read_word-union true (Branch c l) t e = no_places t e
read_word-union true (Jump l) t e = no_places t e
read_word-union true (Fence f) t e = no_places t e

pub with_word_long : (i : Instruction) (w : ℕ) (t : Taints)
    → length (with_word i w t).registers ≡ length t.registers
with_word_long (Immediate d n) w t = length-set _ _ _
with_word_long (Move d a) w t = length-set _ _ _
with_word_long (AddImmediate d a n) w t = length-set _ _ _
with_word_long (Operate o d a b) w t = length-set _ _ _
with_word_long (Load d a) w t = length-set _ _ _
with_word_long (LoadIndexed d a b) w t = length-set _ _ _
with_word_long (Store d a) w t = refl
with_word_long (StoreIndexed d a b) w t = refl
with_word_long (Compare a b) w t = refl
with_word_long (CompareImmediate a n) w t = refl
with_word_long (Branch c l) w t = refl
with_word_long (Jump l) w t = refl
with_word_long (Fence f) w t = refl
