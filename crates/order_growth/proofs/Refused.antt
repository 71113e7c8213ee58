-- What a check refuses in a candidate, it refuses in one that this lies within.
use Rattle.std.proofs.Common.{ℕ, ◌≡◌, ◌↔◌, inl, inr, [], Bool, true, false, IsTrue, Some, refl, sym, ap, ◌∙◌, subst, arith}
use Rattle.std.proofs.lemmas.Option.{slice_get_within, slice_get_cases}
use Rattle.bit_rows.proofs.Closing.{Plus-map}
use Rattle.text_values.specs.declared.model.CheckWord.{CheckWord}
use Rattle.text_values.specs.declared.model.CheckWord.TheVariants as words
use Rattle.binding_kinds.specs.declared.kinds.Kind.{Kind}
use Rattle.binding_kinds.specs.declared.kinds.Kind.TheVariants as kinds
use Rattle.binding_graph.specs.declared.resolved.CheckCode.{CheckCode}
use Rattle.binding_graph.specs.declared.resolved.Source.{Source}
use Rattle.binding_graph.specs.Trees.{RelTree, rel_code}
use Rattle.cat_machine.specs.Checks.{Holds}
use Rattle.cat_machine.specs.Executions.{events_of, EventsAt, PairsAt}
use Rattle.cat_machine.specs.Meaning.{MeansRelation}
use Rattle.cat_machine.specs.Named.{OwnPairs, WithOwn}
use Rattle.cat_machine.specs.Values.{IsCheckAnswer, Unless}
use Rattle.order_growth.specs.declared.growth.Growth.{Growth}
use Rattle.order_growth.specs.declared.growth.Growth.TheVariants.{Stays, Grows, Unknown}
use Rattle.order_growth.specs.Growth.{growth_of, source_growth}
use Rattle.order_growth.specs.Within.{IsGrowthBetween}
use Rattle.order_growth.specs.Laws.{RefusalsStay}
use Rattle.order_growth.proofs.Trees.{Subset}
use Rattle.order_growth.proofs.Valued.{count_same, relation_grown}

-- a relation within one that meets a check meets it
holds_within : (word : CheckWord) (R S : ℕ → ℕ → Type 0) → Subset R S → Holds word S → Holds word R
holds_within words.Acyclic R S wider holds = λ a path. holds a (Plus-map R S wider a a path)
holds_within words.Irreflexive R S wider holds = λ a pair. holds a (wider a a pair)
holds_within words.Empty R S wider holds = λ a b pair. holds a b (wider a b pair)

loses_none : (g : Growth) (R S : ℕ → ℕ → Type 0) → (g ≡ Unknown → ⊥) → IsGrowthBetween g R S → Subset R S
loses_none Stays R S known r = λ a b x. (r a b).0 x
loses_none Grows R S known r = r
loses_none Unknown R S known r = absurd (known refl)

-- the answer of a check of a relation
relation_answer : (check : CheckCode) (n : ℕ) (sets : Source → ℕ → Type 0)
    (outer : Source → ℕ → ℕ → Type 0) (kind : Kind) (answer : Bool) (e : RelTree)
    → (kind ≡ kinds.OfSet → ⊥) → check.code.steps.items ≡ rel_code e []
    → IsCheckAnswer check n sets outer kind answer
    → IsTrue answer
    ↔ Unless check.negated (Holds check.word (MeansRelation n sets (WithOwn outer (OwnPairs n [])) e))
relation_answer check n sets outer kinds.OfSet answer e none code is = absurd (none refl)
relation_answer check n sets outer kinds.OfRelation answer e none code is = is e code
relation_answer check n sets outer kinds.OfAny answer e none code is = is e code

not_negated : (b : Bool) (P : Type 0) (answer : Bool) → b ≡ false → IsTrue answer ↔ Unless b P
    → IsTrue answer ↔ P
not_negated false P answer is same = same
not_negated true P answer is same = absurd (let f : true ≡ false = is in cc)

-- a check that holds in the larger holds in the smaller
answers_fall : (b d : Bool) (P Q : Type 0) → IsTrue b ↔ P → IsTrue d ↔ Q → (Q → P) → b ≡ false
    → d ≡ false
answers_fall b false P Q p q less refused = refl
answers_fall b true P Q p q less refused =
    absurd (let yes : b ≡ true = p.1 (less (q.0 refl)) in let f : true ≡ false = sym yes ∙ refused in cc)

pub refusals_kept : (check : CheckCode) → RefusalsStay check
refusals_kept check growths inputs others candidates further answers after k l one more e plain
    relation code known are were here there inside grown refused =
    elim (slice_get_cases after l).1 [
      | inl (b, lt, at, same) ↦
          let n = events_of one in
          let R = MeansRelation n (EventsAt n one inputs k) (WithOwn (PairsAt n one inputs k) (OwnPairs n [])) e in
          let S = MeansRelation n (EventsAt n more others l) (WithOwn (PairsAt n more others l) (OwnPairs n [])) e in
          let first = not_negated check.negated (Holds check.word R) false plain (relation_answer check n (EventsAt n one inputs k) (PairsAt n one inputs k) check.code.kind false e relation code (are.1 k one false here refused)) in
          let moved = subst (λ (m : ℕ). IsCheckAnswer check m (EventsAt m more others l) (PairsAt m more others l) check.code.kind b) (count_same one more inside) (were.1 l more b there at) in
          let second = not_negated check.negated (Holds check.word S) b plain (relation_answer check n (EventsAt n more others l) (PairsAt n more others l) check.code.kind b e relation code moved) in
          let wider : Subset R S = loses_none (growth_of (source_growth growths) e) R S known (relation_grown one more inside growths n inputs k others l grown e) in
          let falls : b ≡ false = answers_fall false b (Holds check.word R) (Holds check.word S) first second (holds_within check.word R S wider) refl in
          at ∙ ap Some falls
      | inr (past, none) ↦
          let lt = slice_get_within further l more there in
          absurd (omega (arith, past, lt, were.0))
    ]
