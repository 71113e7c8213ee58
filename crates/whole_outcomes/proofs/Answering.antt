-- A check has an answer in each candidate.
use Rattle.std.proofs.Common.{ℕ, ◌≡◌, ◌<◌, ◌≤◌, ◌↔◌, ◌∙◌, inl, inr, List, [], Bool, true, false, IsTrue, sym, subst}
use Rattle.bit_rows.specs.Pairs.{Plus}
use Rattle.whole_outcomes.specs.NameLaws.{Told}
use Rattle.whole_outcomes.proofs.Telling.{told_not, Below, told_below}
use Rattle.text_values.specs.declared.model.CheckWord.{CheckWord}
use Rattle.text_values.specs.declared.model.CheckWord.TheVariants as words
use Rattle.binding_kinds.specs.declared.kinds.Kind.{Kind}
use Rattle.binding_kinds.specs.declared.kinds.Kind.TheVariants as kinds
use Rattle.binding_graph.specs.declared.resolved.CheckCode.{CheckCode}
use Rattle.binding_graph.specs.declared.resolved.Source.{Source}
use Rattle.binding_graph.specs.Trees.{SetTree, RelTree, rel_code}
use Rattle.cat_machine.specs.Checks.{Holds, IsEmptySet}
use Rattle.cat_machine.specs.Executions.{events_of, EventsAt, PairsAt}
use Rattle.cat_machine.specs.Meaning.{MeansSet, MeansRelation}
use Rattle.cat_machine.specs.Named.{OwnPairs, WithOwn}
use Rattle.cat_machine.specs.Values.{IsCheckAnswer, Unless}
use Rattle.order_growth.specs.Within.{HasExpression}
use Rattle.whole_outcomes.specs.ValueLaws.{AnswersExist}
use Rattle.whole_outcomes.proofs.Trees.{IsToldSet, IsTold, plus, told_set, told_relation, truth, truth_is}
use Rattle.whole_outcomes.proofs.Named.{sets_told, pairs_told}
use Rattle.whole_outcomes.proofs.Bodies.{one_set, one_relation, outer_told}

-- ---- whether a check holds can be told

told_empty : (n : ℕ) (S : ℕ → Type 0) → IsToldSet n S → Told (IsEmptySet S)
told_empty n S s = elim (told_below S s.told n) [
  | inl h ↦ inr (λ none. none h.0 h.2)
  | inr none ↦ inl (λ a x. none (a, s.within a x, x))
]

told_loops : (n : ℕ) (R : ℕ → ℕ → Type 0) → IsTold n R → Told ((a : ℕ) → R a a → ⊥)
told_loops n R r = elim (told_below (λ a. R a a) (λ a. r.told a a) n) [
  | inl h ↦ inr (λ none. none h.0 h.2)
  | inr none ↦ inl (λ a x. none (a, (r.within a a x).0, x))
]

told_pairs : (n : ℕ) (R : ℕ → ℕ → Type 0) → IsTold n R → Told ((a b : ℕ) → R a b → ⊥)
told_pairs n R r =
    elim (told_below (λ a. Below (λ b. R a b) n) (λ a. told_below (λ b. R a b) (λ b. r.told a b) n) n) [
      | inl h ↦ inr (λ none. none h.0 h.2.0 h.2.2)
      | inr none ↦ inl (λ a b x. let w = r.within a b x in none (a, w.0, (b, w.1, x)))
    ]

told_check : (word : CheckWord) (n : ℕ) (R : ℕ → ℕ → Type 0) → IsTold n R → Told (Holds word R)
told_check words.Acyclic n R r = told_loops n (Plus R) (plus n R r)
told_check words.Irreflexive n R r = told_loops n R r
told_check words.Empty n R r = told_pairs n R r

-- so there is an answer
some_answer : (negated : Bool) (P : Type 0) → Told P → (answer : Bool) × (IsTrue answer ↔ Unless negated P)
some_answer false P told = (truth P told, truth_is P told)
some_answer true P told = (truth (P → ⊥) (told_not P told), truth_is (P → ⊥) (told_not P told))

module _ (check : CheckCode) (n : ℕ) (few : n ≤ 128) (sets : Source → ℕ → Type 0)
    (outer : Source → ℕ → ℕ → Type 0) (told_sets : (source : Source) → IsToldSet n (sets source))
    (told_rels : (own : ℕ → ℕ → ℕ → Type 0) → ((x : ℕ) → IsTold n (own x)) → (source : Source)
    → IsTold n (WithOwn outer own source)) where
  abbrev Meant : RelTree → ℕ → ℕ → Type 0
  Meant e = MeansRelation n sets (WithOwn outer (OwnPairs n [])) e

  told_outer : (source : Source) → IsTold n (WithOwn outer (OwnPairs n []) source)
  told_outer = outer_told n few sets outer told_sets told_rels

  of_relation : (e : RelTree) → check.code.steps.items ≡ rel_code e []
      → (answer : Bool) × ((t : RelTree) → check.code.steps.items ≡ rel_code t []
      → IsTrue answer ↔ Unless check.negated (Holds check.word (Meant t)))
  of_relation e code =
      let (answer, is) = some_answer check.negated (Holds check.word (Meant e)) (told_check check.word n (Meant e)
      (told_relation n sets (WithOwn outer (OwnPairs n [])) told_sets told_outer e)) in (
        answer,
        λ t other. subst
            (λ (x : RelTree). IsTrue answer ↔ Unless check.negated (Holds check.word (Meant x)))
            (one_relation e t (sym code ∙ other)) is,
      )

  an_answer : (kind : Kind) → HasExpression kind check.code.steps.items
      → (answer : Bool) × IsCheckAnswer check n sets outer kind answer
  an_answer kinds.OfSet tree =
      let (answer, is) = some_answer check.negated (IsEmptySet (MeansSet n sets tree.0)) (told_empty n (MeansSet n sets tree.0)
      (told_set n sets (WithOwn outer (OwnPairs n [])) told_sets told_outer tree.0)) in (
        answer,
        λ t other. subst
            (λ (x : SetTree). IsTrue answer ↔ Unless check.negated (IsEmptySet (MeansSet n sets x)))
            (one_set tree.0 t (sym tree.1 ∙ other)) is,
      )
  an_answer kinds.OfRelation tree = of_relation tree.0 tree.1
  an_answer kinds.OfAny tree = of_relation tree.0 tree.1

pub answers_found : (check : CheckCode) → AnswersExist check
answers_found check one inputs k tree below =
    an_answer check (events_of one) one.0.few (EventsAt (events_of one) one inputs k)
    (PairsAt (events_of one) one inputs k) (sets_told one (events_of one) inputs k below)
    (pairs_told one (events_of one) inputs k below) check.code.kind tree
