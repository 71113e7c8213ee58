-- What a check asks for is broken in one way.
use Rattle.std.proofs.Common.{ℕ, ◌≡◌, ◌<◌, [], inl, inr, Bool, true, false, Option, Some, None, arith, subst, sym}
use Rattle.std.proofs.lemmas.Bool.{cases_lt}
use denote.Ref.{Bor}
use Rattle.relation_cycles.specs.Cycles.{IsFirstReflexive, IsLeastPair}
use Rattle.relation_cycles.proofs.Steps.{one_cycle}
use Rattle.text_values.specs.declared.model.CheckWord.{CheckWord}
use Rattle.text_values.specs.declared.model.CheckWord.TheVariants as words
use Rattle.binding_kinds.specs.declared.kinds.Kind.{Kind}
use Rattle.binding_kinds.specs.declared.kinds.Kind.TheVariants as kinds
use Rattle.binding_graph.specs.declared.resolved.CheckCode.{CheckCode}
use Rattle.binding_graph.specs.declared.resolved.Source.{Source}
use Rattle.cat_machine.specs.declared.column.Column.{Column}
use Rattle.cat_machine.specs.Checks.{Holds, IsEmptySet}
use Rattle.cat_machine.specs.Executions.{events_of, EventsAt, PairsAt}
use Rattle.cat_machine.specs.Meaning.{MeansSet, MeansRelation}
use Rattle.cat_machine.specs.Named.{WithOwn, OwnPairs}
use Rattle.why_witness.specs.declared.witness.Witness.{Witness}
use Rattle.why_witness.specs.declared.witness.Witness.TheVariants as shown
use Rattle.why_witness.specs.Refusals.{HasOneWitness}
use Rattle.why_witness.specs.Witnesses.{AreSameWitnesses, Breaks, BreaksSet, IsExplained, IsExplanation, IsExpression, IsFirstMember, IsMetWitness, IsSame}
use Rattle.why_witness.proofs.Same.{breaks_refutes}

-- of two numbers neither of which is the smaller one
neither : (a b : ℕ) → (a < b → ⊥) → (b < a → ⊥) → a ≡ b
neither a b less more = elim (cases_lt a b) [
  | inl lt ↦ absurd (less lt)
  | inr le ↦ elim (cases_lt b a) [ inl gt ↦ absurd (more gt) | inr ge ↦ omega arith ]
]

one_reflexive : (R : ℕ → ℕ → Type 0) (a b : ℕ) → IsFirstReflexive R a → IsFirstReflexive R b → a ≡ b
one_reflexive R a b p q = neither a b (λ lt. q.least a lt p.related) (λ gt. p.least b gt q.related)

one_pair : (R : ℕ → ℕ → Type 0) (a b x y : ℕ) → IsLeastPair R a b → IsLeastPair R x y
    → (a ≡ x) × (b ≡ y)
one_pair R a b x y p q =
    let first : a ≡ x = neither a x (λ lt. q.first a b lt p.related) (λ gt. p.first x y gt q.related) in
    let second : b ≡ y = neither b y (λ lt. q.second b lt (subst (λ (z : ℕ). R z b) first p.related)) (λ gt. p.second y gt (subst (λ (z : ℕ). R z y) (sym first) q.related)) in
    (first, second)

one_member : (S : ℕ → Type 0) (a b : ℕ) → IsFirstMember S a → IsFirstMember S b → a ≡ b
one_member S a b p q = neither a b (λ lt. q.least a lt p.member) (λ gt. p.least b gt q.member)

pub breaks_once : (word : CheckWord) (R : ℕ → ℕ → Type 0) (v w : Witness) → Breaks word R v
    → Breaks word R w → IsSame v w
breaks_once words.Acyclic R (shown.Cycle xs) (shown.Cycle ys) p q =
    one_cycle R xs.items ys.items p q
breaks_once words.Acyclic R (shown.Cycle xs) (shown.Reflexive e) p q = absurd q
breaks_once words.Acyclic R (shown.Cycle xs) (shown.Pair e f) p q = absurd q
breaks_once words.Acyclic R (shown.Cycle xs) (shown.Member e) p q = absurd q
breaks_once words.Acyclic R (shown.Cycle xs) shown.Met p q = absurd q
breaks_once words.Acyclic R (shown.Reflexive a) w p q = absurd p
breaks_once words.Acyclic R (shown.Pair a b) w p q = absurd p
breaks_once words.Acyclic R (shown.Member a) w p q = absurd p
breaks_once words.Acyclic R shown.Met w p q = absurd p
breaks_once words.Irreflexive R (shown.Cycle xs) w p q = absurd p
breaks_once words.Irreflexive R (shown.Reflexive a) (shown.Cycle es) p q = absurd q
breaks_once words.Irreflexive R (shown.Reflexive a) (shown.Reflexive b) p q =
    one_reflexive R a b p q
breaks_once words.Irreflexive R (shown.Reflexive a) (shown.Pair e f) p q = absurd q
breaks_once words.Irreflexive R (shown.Reflexive a) (shown.Member e) p q = absurd q
breaks_once words.Irreflexive R (shown.Reflexive a) shown.Met p q = absurd q
breaks_once words.Irreflexive R (shown.Pair a b) w p q = absurd p
breaks_once words.Irreflexive R (shown.Member a) w p q = absurd p
breaks_once words.Irreflexive R shown.Met w p q = absurd p
breaks_once words.Empty R (shown.Cycle xs) w p q = absurd p
breaks_once words.Empty R (shown.Reflexive a) w p q = absurd p
breaks_once words.Empty R (shown.Pair a b) (shown.Cycle es) p q = absurd q
breaks_once words.Empty R (shown.Pair a b) (shown.Reflexive e) p q = absurd q
breaks_once words.Empty R (shown.Pair a b) (shown.Pair x y) p q = one_pair R a b x y p q
breaks_once words.Empty R (shown.Pair a b) (shown.Member e) p q = absurd q
breaks_once words.Empty R (shown.Pair a b) shown.Met p q = absurd q
breaks_once words.Empty R (shown.Member a) w p q = absurd p
breaks_once words.Empty R shown.Met w p q = absurd p

pub breaks_set_once : (S : ℕ → Type 0) (v w : Witness) → BreaksSet S v → BreaksSet S w → IsSame v w
breaks_set_once S (shown.Cycle xs) w p q = absurd p
breaks_set_once S (shown.Reflexive a) w p q = absurd p
breaks_set_once S (shown.Pair a b) w p q = absurd p
breaks_set_once S (shown.Member a) (shown.Cycle es) p q = absurd q
breaks_set_once S (shown.Member a) (shown.Reflexive e) p q = absurd q
breaks_set_once S (shown.Member a) (shown.Pair e f) p q = absurd q
breaks_set_once S (shown.Member a) (shown.Member b) p q = one_member S a b p q
breaks_set_once S (shown.Member a) shown.Met p q = absurd q
breaks_set_once S shown.Met w p q = absurd p

pub breaks_set_refutes : (S : ℕ → Type 0) (w : Witness) → BreaksSet S w → IsEmptySet S → ⊥
breaks_set_refutes S (shown.Cycle xs) h none = h
breaks_set_refutes S (shown.Reflexive a) h none = h
breaks_set_refutes S (shown.Pair a b) h none = h
breaks_set_refutes S (shown.Member a) h none = none a h.member
breaks_set_refutes S shown.Met h none = h

met_once : (v w : Witness) → IsMetWitness v → IsMetWitness w → IsSame v w
met_once (shown.Cycle xs) w p q = absurd p
met_once (shown.Reflexive a) w p q = absurd p
met_once (shown.Pair a b) w p q = absurd p
met_once (shown.Member a) w p q = absurd p
met_once shown.Met (shown.Cycle xs) p q = absurd q
met_once shown.Met (shown.Reflexive a) p q = absurd q
met_once shown.Met (shown.Pair a b) p q = absurd q
met_once shown.Met (shown.Member a) p q = absurd q
met_once shown.Met shown.Met p q = tt

module _ (A : Type 0) (P : Witness → Type 0) (refutes : (w : Witness) → P w → A → ⊥)
    (once : (v w : Witness) → P v → P w → IsSame v w) where
  one_explanation : (negated : Bool) (f g : Option Witness) → IsExplanation negated A P f
      → IsExplanation negated A P g → AreSameWitnesses f g
  one_explanation false None None p q = tt
  one_explanation false None (Some w) p q = absurd (refutes w q p)
  one_explanation false (Some v) None p q = absurd (refutes v p q)
  one_explanation false (Some v) (Some w) p q = once v w p q
  one_explanation true None None p q = tt
  one_explanation true None (Some w) p q = absurd (p q.0)
  one_explanation true (Some v) None p q = absurd (q p.0)
  one_explanation true (Some v) (Some w) p q = met_once v w p.1 q.1

module _ (check : CheckCode) (n : ℕ) (sets : Source → ℕ → Type 0) (outer : Source → ℕ → ℕ → Type 0)
    (f g : Option Witness) where
  one_explained : (kind : Kind) → IsExpression kind check.code.steps.items
      → IsExplained check n sets outer kind f → IsExplained check n sets outer kind g → AreSameWitnesses f g
  one_explained kinds.OfSet (t, code) p q =
      let S = MeansSet n sets t in one_explanation (IsEmptySet S) (BreaksSet S) (breaks_set_refutes S) (breaks_set_once S) check.negated f g (p t code) (q t code)
  one_explained kinds.OfRelation (t, code) p q =
      let R = MeansRelation n sets (WithOwn outer (OwnPairs n [])) t in one_explanation (Holds check.word R) (Breaks check.word R) (breaks_refutes check.word R) (breaks_once check.word R) check.negated f g (p t code) (q t code)
  one_explained kinds.OfAny (t, code) p q =
      let R = MeansRelation n sets (WithOwn outer (OwnPairs n [])) t in one_explanation (Holds check.word R) (Breaks check.word R) (breaks_refutes check.word R) (breaks_once check.word R) check.negated f g (p t code) (q t code)

pub one_refusal : (check : CheckCode) (values : Column) (k : ℕ) → HasOneWitness check values k
one_refusal check values k space inputs one expression are at f g p q =
    one_explained check (events_of one) (EventsAt (events_of one) one inputs k)
    (PairsAt (events_of one) one inputs k) f g check.code.kind expression
    (p space inputs one are at) (q space inputs one are at)
