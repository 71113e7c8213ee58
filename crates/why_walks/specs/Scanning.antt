-- The steps of an expression, read from the last to the first: the operator stands before its
-- operands.
use Rattle.std.specs.Prelude.{List, [], ◌∷◌, Bool, true, false}
use Rattle.binding_graph.specs.declared.resolved.Step.{Step}
use Rattle.binding_graph.specs.declared.resolved.Step.TheVariants as steps
use Rattle.text_values.specs.declared.model.Postfix.TheVariants as postfix
use Rattle.why_walks.specs.declared.factor.Repeats.TheVariants as repeats
use Rattle.why_walks.specs.Factors.{FactorSteps}
use Rattle.why_witness.specs.Pending.{without_next, next_twice, next_inside}

-- of the relations that are still to come, the next first, whether each is a factor
abbrev pub pending_after : Step → List Bool → List Bool
pending_after (steps.PushRelation source) bs = without_next bs
pending_after steps.PushNoPairs bs = without_next bs
pending_after (steps.BlendRelations how) bs = next_twice (next_inside bs)
pending_after steps.SequenceRelations bs = next_twice bs
pending_after steps.ProductOfSets bs = without_next bs
pending_after steps.IdentityOn bs = without_next bs
pending_after (steps.Close how) bs = next_inside bs
pending_after steps.ComplementRelation bs = next_inside bs
pending_after step bs = bs

abbrev pub is_next_factor : List Bool → Bool
is_next_factor [] = false
is_next_factor (b ∷ bs) = b

-- the step makes a relation
abbrev pub makes_relation : Step → Bool
makes_relation (steps.PushSet source) = false
makes_relation steps.PushEverything = false
makes_relation steps.PushNoEvents = false
makes_relation (steps.BlendSets how) = false
makes_relation steps.ComplementSet = false
makes_relation step = true

-- the factor that ends with a step
abbrev pub last_of : Step → FactorSteps
last_of (steps.Close postfix.Transitive) = record { repeats = repeats.OnceOrMore; steps = [] }
last_of (steps.Close postfix.Reflexive) = record { repeats = repeats.AtMostOnce; steps = [] }
last_of (steps.Close postfix.Closure) = record { repeats = repeats.AnyNumber; steps = [] }
last_of step = record { repeats = repeats.Once; steps = step ∷ [] }

-- a step of the first of the parts
abbrev pub with_step : Step → List FactorSteps → List FactorSteps
with_step step [] = []
with_step step (p ∷ ps) = record { repeats = p.repeats; steps = step ∷ p.steps } ∷ ps

-- a relation that is a factor: its last step, or a composition of further factors
abbrev pub with_last : Step → List FactorSteps → List FactorSteps
with_last steps.SequenceRelations ps = ps
with_last step ps = last_of step ∷ ps

abbrev pub with_relation : Bool → Step → List FactorSteps → List FactorSteps
with_relation true step ps = with_last step ps
with_relation false step ps = with_step step ps

abbrev pub parts_after : Bool → Step → List Bool → List FactorSteps → List FactorSteps
parts_after true step bs ps = with_relation (is_next_factor bs) step ps
parts_after false step bs ps = with_step step ps

-- what is still to come when these steps are read, and the parts that they make
abbrev pub pending_from : List Step → List Bool
pending_from [] = true ∷ []
pending_from (x ∷ xs) = pending_after x (pending_from xs)

abbrev pub parts_from : List Step → List FactorSteps
parts_from [] = []
parts_from (x ∷ xs) = parts_after (makes_relation x) x (pending_from xs) (parts_from xs)
