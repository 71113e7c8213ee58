-- The tree of an expression means what the expression means.
use Rattle.std.proofs.Common.{ℕ, ◌<◌, ◌↔◌, List, [], ◌∷◌}
use Rattle.binding_kinds.specs.declared.scope.Used.{Used}
use Rattle.binding_kinds.specs.Formula.{Formula, Value, Parameter, Everything, NoPairs, NoEvents, Joined, Marked, Complement, Identity}
use Rattle.binding_kinds.specs.Fits.{kind_of, IsTyped}
use Rattle.binding_graph.specs.declared.resolved.Source.{Source}
use Rattle.binding_graph.specs.Meaning.{source_of, set_tree, rel_tree}
use Rattle.cat_machine.specs.Meaning.{MeansSet, MeansRelation}
use Rattle.meaning.specs.Cat.{Meaning}
use Rattle.meaning_items.specs.Formulas.{formula_meaning}
use Rattle.meaning_items.specs.Alike.{IsAs, HasSources}
use Rattle.meaning_items.proofs.Operators.{Like, of_set, of_relation, like_as, as_like, joined_like, marked_like, complement_like, identity_like}

itself : (A : Type 0) → A ↔ A
itself A = (λ a. a, λ a. a)

pub tree_like : (n : ℕ) (value : ℕ → Meaning ℕ) (sets : Source → ℕ → Type 0)
    (rels : Source → ℕ → ℕ → Type 0) (us : List Used) (from : ℕ) (f : Formula) → IsTyped [] f
    → HasSources value sets rels us from f
    → Like (kind_of [] f) (formula_meaning (λ a. a < n) value [] f)
    (MeansSet n sets (set_tree us from f)) (MeansRelation n sets rels (rel_tree us from f))
tree_like n value sets rels us from (Value f) typed has =
    as_like f.kind (value f.slot) (sets (source_of us from f)) (rels (source_of us from f)) has
tree_like n value sets rels us from (Parameter i) typed has = absurd typed
tree_like n value sets rels us from Everything typed has = of_set _ _ _ (λ a. itself (a < n))
tree_like n value sets rels us from NoPairs typed has = of_relation _ _ _ (λ a b. itself ⊥)
tree_like n value sets rels us from NoEvents typed has = of_set _ _ _ (λ a. itself ⊥)
tree_like n value sets rels us from (Joined op a b) typed has =
    joined_like op n sets rels (kind_of [] a) (kind_of [] b)
    (formula_meaning (λ a. a < n) value [] a) (formula_meaning (λ a. a < n) value [] b)
    (set_tree us from a) (set_tree us from b) (rel_tree us from a) (rel_tree us from b) typed.2
    (tree_like n value sets rels us from a typed.0 has.0)
    (tree_like n value sets rels us from b typed.1 has.1)
tree_like n value sets rels us from (Marked op a) typed has =
    marked_like op n (kind_of [] a) (formula_meaning (λ a. a < n) value [] a) _ _ _ typed.1
    (tree_like n value sets rels us from a typed.0 has)
tree_like n value sets rels us from (Complement a) typed has =
    complement_like n (kind_of [] a) (formula_meaning (λ a. a < n) value [] a) _ _
    (tree_like n value sets rels us from a typed has)
tree_like n value sets rels us from (Identity a) typed has =
    identity_like (kind_of [] a) (formula_meaning (λ a. a < n) value [] a) _ _ _ typed.1
    (tree_like n value sets rels us from a typed.0 has)

pub tree_as : (n : ℕ) (value : ℕ → Meaning ℕ) (sets : Source → ℕ → Type 0)
    (rels : Source → ℕ → ℕ → Type 0) (us : List Used) (from : ℕ) (f : Formula) → IsTyped [] f
    → HasSources value sets rels us from f
    → IsAs (kind_of [] f) (formula_meaning (λ a. a < n) value [] f)
    (MeansSet n sets (set_tree us from f)) (MeansRelation n sets rels (rel_tree us from f))
tree_as n value sets rels us from f typed has =
    like_as (kind_of [] f) (formula_meaning (λ a. a < n) value [] f)
    (MeansSet n sets (set_tree us from f)) (MeansRelation n sets rels (rel_tree us from f))
    (tree_like n value sets rels us from f typed has)
