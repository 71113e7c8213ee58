-- The words that a pass leaves clean.
use Rattle.std.proofs.Common.{ℕ, suc, ◌≡◌, ◌<◌, ◌+◌, inl, inr, List, refl, sym, ap, subst, ◌∙◌, arith, replicate}
use Rattle.std.proofs.lemmas.List.{get_or-replicate, length-replicate}
use Rattle.std.proofs.lemmas.Bool.{cases_eq}
use Rattle.std.proofs.lemmas.Grind.{same_number_lists}
use Rattle.thread_runs.specs.declared.instruction.Instruction.{Instruction}
use Rattle.taints.specs.declared.taints.Taints.{Taints}
use Rattle.taints.specs.Chains.{Executed, Resource, Register, Cr0, WritesTo}
use Rattle.taints.specs.Taints.{IsInFile, IsWrittenBetween, word_of, with_word, clean_taints}
use Rattle.taints.proofs.Inversion.{is_written}
use Rattle.taints.proofs.TaintSteps.{with_word-written, with_word-kept, with_word_long}

pub no_word : (p : Resource) → IsInFile p → word_of clean_taints p ≡ 0
no_word (Register r) lt = get_or-replicate 256 r 0 0 lt
no_word Cr0 lt = refl

pub written_first : (f : Executed) → IsWrittenBetween f 0 0 clean_taints
written_first f = record {
  height = length-replicate {A = ℕ} 256 0;
  writers = λ p within. inl (no_word p within);
}

-- behind one instruction more
pub written_next : (f : Executed) (n : ℕ) (i : Instruction) (word : ℕ) (t : Taints) → i ≡ f n
    → IsWrittenBetween f 0 n t → IsWrittenBetween f 0 (suc n) (with_word i word t)
written_next f n i word t same old = record {
  height = with_word_long i word t ∙ old.height;
  writers = λ p within. elim (is_written i p) [
    | inl here ↦ inr (
      n,
      omega arith,
      omega arith,
      subst (λ (j : Instruction). WritesTo j p) same here,
    )
    | inr not_here ↦ elim (old.writers p within) [
      | inl none ↦ inl (with_word-kept i word t p not_here ∙ none)
      | inr x ↦ let (j, from, to, writes) = x in inr (j, from, omega (arith, to), writes)
    ]
  ];
}

-- the word that the first instruction writes is set back
pub cleaned_next : (f : Executed) (k n : ℕ) (i : Instruction) (t : Taints) → i ≡ f k
    → IsWrittenBetween f k n t → IsWrittenBetween f (k + 1) n (with_word i 0 t)
cleaned_next f k n i t same old = record {
  height = with_word_long i 0 t ∙ old.height;
  writers = λ p within. elim (is_written i p) [
    | inl here ↦ inl (with_word-written i 0 t p old.height within here)
    | inr not_here ↦ elim (old.writers p within) [
      | inl none ↦ inl (with_word-kept i 0 t p not_here ∙ none)
      | inr x ↦ let (j, from, to, writes) = x in elim (cases_eq j k) [
        | inl e ↦ absurd (not_here (subst (λ (a : Instruction). WritesTo a p) (sym same)
            (subst (λ (m : ℕ). WritesTo (f m) p) e writes)))
        | inr ne ↦ inr (j, omega (arith, from, ne), to, writes)
      ]
    ]
  ];
}

zero_word : (f : Executed) (n : ℕ) (t : Taints) → IsWrittenBetween f n n t → (p : Resource) → IsInFile p
    → word_of t p ≡ 0
zero_word f n t x p within = elim (x.writers p within) [
  | inl none ↦ none
  | inr y ↦ let (j, from, to, writes) = y in absurd (omega (arith, from, to))
]

pub all_clean : (f : Executed) (n : ℕ) (t : Taints) → IsWrittenBetween f n n t → t ≡ clean_taints
all_clean f n t x =
    ap (λ (xs : List ℕ). record t { registers = xs })
    (same_number_lists t.registers (replicate 256 0)
    (x.height ∙ sym (length-replicate {A = ℕ} 256 0))
    (λ k lt.
    let inside : k < 256 = omega (arith, lt, x.height) in
    zero_word f n t x (Register k) inside ∙ sym (get_or-replicate 256 k 0 0 inside)))
    ∙ ap (λ (w : ℕ). record clean_taints { compared = w }) (zero_word f n t x Cr0 tt)
