-- The factors of a composition.
use Rattle.std.specs.Prelude.{◌≡◌, ◌++◌, List, [], ◌∷◌, reverse, map}
use Rattle.binding_graph.specs.declared.resolved.Step.{Step}
use Rattle.binding_graph.specs.Trees.{RelTree, SequenceRelations, Close, rel_code}
use Rattle.text_values.specs.declared.model.Postfix.TheVariants as postfix
use Rattle.why_walks.specs.declared.factor.Factor.{Factor}
use Rattle.why_walks.specs.declared.factor.Repeats.{Repeats}
use Rattle.why_walks.specs.declared.factor.Repeats.TheVariants as repeats

-- the operands of the compositions that the expression is made of, from left to right
abbrev pub factors_of : RelTree → List RelTree
factors_of (SequenceRelations e f) = factors_of e ++ factors_of f
factors_of e = e ∷ []

-- how often a factor takes the steps of its relation, and that relation
abbrev pub repeats_of : RelTree → Repeats
repeats_of (Close postfix.Transitive e) = repeats.OnceOrMore
repeats_of (Close postfix.Reflexive e) = repeats.AtMostOnce
repeats_of (Close postfix.Closure e) = repeats.AnyNumber
repeats_of e = repeats.Once

abbrev pub repeated : RelTree → RelTree
repeated (Close postfix.Transitive e) = e
repeated (Close postfix.Reflexive e) = e
repeated (Close postfix.Closure e) = e
repeated e = e

-- a factor, as steps
pub record FactorSteps : Type 0 where
  pub repeats : Repeats
  pub steps : List Step

abbrev pub factor_steps : Factor → FactorSteps
factor_steps f = record { repeats = f.repeats; steps = f.steps.items }

abbrev pub tree_part : RelTree → FactorSteps
tree_part e = record { repeats = repeats_of e; steps = rel_code (repeated e) [] }

-- these are the factors of the expression of these steps
abbrev pub AreFactors : List Step → List Factor → Type 0
AreFactors steps factors =
    (t : RelTree) → steps ≡ rel_code t [] → map factor_steps factors ≡ map tree_part (factors_of t)

-- the parts that a stack holds, the uppermost first
abbrev pub parts_in : List Factor → List FactorSteps
parts_in factors = reverse (map factor_steps factors)
