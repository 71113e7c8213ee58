-- Relations of the same pairs are broken by the same witnesses.
use Rattle.std.proofs.Common.{ℕ, ◌≡◌, ◌↔◌, List, [], ◌∷◌, Bool, true, false, Option, Some, None, subst, sym}
use Rattle.bit_rows.specs.Pairs.{Path}
use Rattle.relation_cycles.specs.Cycles.{IsCycle}
use Rattle.text_values.specs.declared.model.CheckWord.{CheckWord}
use Rattle.text_values.specs.declared.model.CheckWord.TheVariants as words
use Rattle.cat_machine.specs.Checks.{Holds}
use Rattle.cat_machine.proofs.Same.{Same, SameSet}
use Rattle.why_witness.specs.declared.witness.Witness.{Witness}
use Rattle.why_witness.specs.declared.witness.Witness.TheVariants as shown
use Rattle.why_witness.specs.Witnesses.{Breaks, BreaksSet, IsExplanation}

pub cycle_map : (R S : ℕ → ℕ → Type 0) → ((a b : ℕ) → R a b → S a b) → (xs : List ℕ) → IsCycle R xs
    → IsCycle S xs
cycle_map R S to [] c = c
cycle_map R S to (x ∷ xs) c = go x xs c
  where
    go : (a : ℕ) (ys : List ℕ) → Path R a ys x → Path S a ys x
    go a [] r = to a x r
    go a (y ∷ ys) p = (to a y p.0, go y ys p.1)

pub breaks_same : (word : CheckWord) (R S : ℕ → ℕ → Type 0) → Same R S → (w : Witness)
    → Breaks word R w → Breaks word S w
breaks_same words.Acyclic R S same (shown.Cycle events) h = record {
  cycle = cycle_map R S (λ a b. (same a b).0) events.items h.cycle;
  least = λ others c. h.least others (cycle_map S R (λ a b. (same a b).1) others c);
  first = λ others c long. h.first others (cycle_map S R (λ a b. (same a b).1) others c) long;
}
breaks_same words.Acyclic R S same (shown.Reflexive a) h = h
breaks_same words.Acyclic R S same (shown.Pair a b) h = h
breaks_same words.Acyclic R S same (shown.Member a) h = h
breaks_same words.Acyclic R S same shown.Met h = h
breaks_same words.Irreflexive R S same (shown.Cycle events) h = h
breaks_same words.Irreflexive R S same (shown.Reflexive a) h = record {
  related = (same a a).0 h.related;
  least = λ b lt r. h.least b lt ((same b b).1 r);
}
breaks_same words.Irreflexive R S same (shown.Pair a b) h = h
breaks_same words.Irreflexive R S same (shown.Member a) h = h
breaks_same words.Irreflexive R S same shown.Met h = h
breaks_same words.Empty R S same (shown.Cycle events) h = h
breaks_same words.Empty R S same (shown.Reflexive a) h = h
breaks_same words.Empty R S same (shown.Pair a b) h = record {
  related = (same a b).0 h.related;
  first = λ x y lt r. h.first x y lt ((same x y).1 r);
  second = λ y lt r. h.second y lt ((same a y).1 r);
}
breaks_same words.Empty R S same (shown.Member a) h = h
breaks_same words.Empty R S same shown.Met h = h

pub breaks_set_same : (S T : ℕ → Type 0) → SameSet S T → (w : Witness) → BreaksSet S w
    → BreaksSet T w
breaks_set_same S T same (shown.Cycle events) h = h
breaks_set_same S T same (shown.Reflexive a) h = h
breaks_set_same S T same (shown.Pair a b) h = h
breaks_set_same S T same (shown.Member a) h = record {
  member = (same a).0 h.member;
  least = λ b lt m. h.least b lt ((same b).1 m);
}
breaks_set_same S T same shown.Met h = h

-- a witness shows that what is asked does not hold
pub breaks_refutes : (word : CheckWord) (R : ℕ → ℕ → Type 0) (w : Witness) → Breaks word R w
    → Holds word R → ⊥
breaks_refutes words.Acyclic R (shown.Cycle events) h holds = none events.items h.cycle
  where
    none : (xs : List ℕ) → IsCycle R xs → ⊥
    none [] c = c
    none (x ∷ xs) c = holds x (xs, c)
breaks_refutes words.Acyclic R (shown.Reflexive a) h holds = h
breaks_refutes words.Acyclic R (shown.Pair a b) h holds = h
breaks_refutes words.Acyclic R (shown.Member a) h holds = h
breaks_refutes words.Acyclic R shown.Met h holds = h
breaks_refutes words.Irreflexive R (shown.Cycle events) h holds = h
breaks_refutes words.Irreflexive R (shown.Reflexive a) h holds = holds a h.related
breaks_refutes words.Irreflexive R (shown.Pair a b) h holds = h
breaks_refutes words.Irreflexive R (shown.Member a) h holds = h
breaks_refutes words.Irreflexive R shown.Met h holds = h
breaks_refutes words.Empty R (shown.Cycle events) h holds = h
breaks_refutes words.Empty R (shown.Reflexive a) h holds = h
breaks_refutes words.Empty R (shown.Pair a b) h holds = holds a b h.related
breaks_refutes words.Empty R (shown.Member a) h holds = h
breaks_refutes words.Empty R shown.Met h holds = h

pub explanation_same : (negated : Bool) (A B : Type 0) (P Q : Witness → Type 0) → A ↔ B
    → ((w : Witness) → P w → Q w) → (found : Option Witness) → IsExplanation negated A P found
    → IsExplanation negated B Q found
explanation_same false A B P Q same to None h = same.0 h
explanation_same false A B P Q same to (Some w) h = to w h
explanation_same true A B P Q same to None h = λ b. h (same.1 b)
explanation_same true A B P Q same to (Some w) h = (same.0 h.0, h.1)

-- and of one that is
pub explains_met : (negated : Bool) (A : Type 0) (P : Witness → Type 0) → negated ≡ true → A
    → IsExplanation negated A P (Some shown.Met)
explains_met negated A P e h =
    subst (λ (b : Bool). IsExplanation b A P (Some shown.Met)) (sym e) (h, tt)

pub explains_unmet : (negated : Bool) (A : Type 0) (P : Witness → Type 0) → negated ≡ true → (A → ⊥)
    → IsExplanation negated A P None
explains_unmet negated A P e h = subst (λ (b : Bool). IsExplanation b A P None) (sym e) h
