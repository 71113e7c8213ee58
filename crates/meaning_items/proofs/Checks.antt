-- The answer of a check is whether the definitions say that it is met.
use Rattle.std.proofs.Common.{ℕ, ◌≡◌, ◌↔◌, [], Bool, true, false, IsTrue}
use Rattle.text_values.specs.declared.model.CheckWord.{CheckWord}
use Rattle.text_values.specs.declared.model.CheckWord.TheVariants as words
use Rattle.binding_kinds.specs.declared.kinds.Kind.{Kind}
use Rattle.binding_kinds.specs.declared.kinds.Kind.TheVariants as kinds
use Rattle.binding_kinds.specs.Fits.{IsKnown}
use Rattle.binding_kinds.specs.Kinds.{takes_body}
use Rattle.binding_graph.specs.declared.resolved.CheckCode.{CheckCode}
use Rattle.binding_graph.specs.declared.resolved.Source.{Source}
use Rattle.binding_graph.specs.Meaning.{steps_of}
use Rattle.binding_graph.specs.Trees.{SetTree, RelTree}
use Rattle.cat_machine.specs.Checks.{Holds, IsEmptySet}
use Rattle.cat_machine.specs.Meaning.{MeansSet, MeansRelation}
use Rattle.cat_machine.specs.Named.{OwnPairs, WithOwn}
use Rattle.cat_machine.specs.Values.{Unless, IsCheckAnswer}
use Rattle.meaning.specs.Cat.{Meaning, ASet, ARelation, Nothing, HasProperty, NegatedIf}
use Rattle.meaning_items.specs.Alike.{IsAs}
use Rattle.meaning_items.proofs.Operators.{paths_same}

set_holds : (w : CheckWord) (m : Meaning ℕ) (T : ℕ → Type 0) (R : ℕ → ℕ → Type 0)
    → IsTrue (takes_body w kinds.OfSet) → IsAs kinds.OfSet m T R → HasProperty w m ↔ IsEmptySet T
set_holds words.Empty (ASet S) T R takes h =
    (λ none a t. none a ((h a).1 t), λ none a s. none a ((h a).0 s))
set_holds words.Acyclic (ASet S) T R takes h = absurd (let f : false ≡ true = takes in cc)
set_holds words.Irreflexive (ASet S) T R takes h = absurd (let f : false ≡ true = takes in cc)
set_holds w (ARelation Q) T R takes h = absurd h
set_holds w Nothing T R takes h = absurd h

relation_holds : (w : CheckWord) (m : Meaning ℕ) (T : ℕ → Type 0) (R : ℕ → ℕ → Type 0)
    → IsAs kinds.OfRelation m T R → HasProperty w m ↔ Holds w R
relation_holds words.Acyclic (ARelation Q) T R h = (
  λ none a p. none a ((paths_same Q R h a a).1 p),
  λ none a p. none a ((paths_same Q R h a a).0 p),
)
relation_holds words.Irreflexive (ARelation Q) T R h =
    (λ none a p. none a ((h a a).1 p), λ none a p. none a ((h a a).0 p))
relation_holds words.Empty (ARelation Q) T R h =
    (λ none a b p. none a b ((h a b).1 p), λ none a b p. none a b ((h a b).0 p))
relation_holds w (ASet S) T R h = absurd h
relation_holds w Nothing T R h = absurd h

negated_same : (b : Bool) (P Q : Type 0) → P ↔ Q → NegatedIf b P ↔ Unless b Q
negated_same false P Q h = h
negated_same true P Q h = (λ none q. none (h.1 q), λ none p. none (h.0 p))

both_ways : (A P Q : Type 0) → A ↔ Q → P ↔ Q → A ↔ P
both_ways A P Q h g = (λ a. g.1 (h.0 a), λ p. h.1 (g.0 p))

pub check_met : (check : CheckCode) (n : ℕ) (sets : Source → ℕ → Type 0)
    (outer : Source → ℕ → ℕ → Type 0) (K : Kind) → IsKnown K → (answer : Bool)
    → IsCheckAnswer check n sets outer K answer → (S : SetTree) (R : RelTree)
    → check.code.steps.items ≡ steps_of K S R → (m : Meaning ℕ)
    → IsAs K m (MeansSet n sets S) (MeansRelation n sets (WithOwn outer (OwnPairs n [])) R)
    → IsTrue (takes_body check.word K)
    → IsTrue answer ↔ NegatedIf check.negated (HasProperty check.word m)
check_met check n sets outer kinds.OfSet known answer is S R steps m h takes =
    both_ways _ _ _ (is S steps)
    (negated_same check.negated _ _
    (set_holds check.word m (MeansSet n sets S) (MeansRelation n sets (WithOwn outer (OwnPairs n [])) R) takes h))
check_met check n sets outer kinds.OfRelation known answer is S R steps m h takes =
    both_ways _ _ _ (is R steps)
    (negated_same check.negated _ _
    (relation_holds check.word m (MeansSet n sets S)
    (MeansRelation n sets (WithOwn outer (OwnPairs n [])) R) h))
check_met check n sets outer kinds.OfAny known answer is S R steps m h takes = absurd known
