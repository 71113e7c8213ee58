-- The steps of an expression, read from the last to the first: the operator stands before its
-- operands.
use Rattle.std.specs.Prelude.{List, [], ◌∷◌, Bool, true, false, Option, Some, None}
use Rattle.std.specs.List.{cons_option}
use Rattle.binding_graph.specs.declared.resolved.Blend.TheVariants as blends
use Rattle.binding_graph.specs.declared.resolved.Source.{Source}
use Rattle.binding_graph.specs.declared.resolved.Step.{Step}
use Rattle.binding_graph.specs.declared.resolved.Step.TheVariants as steps
use Rattle.why_witness.specs.Pending.{without_next, next_twice, next_inside}

-- of the relations that are still to come, the next first, whether each is an operand of the union
abbrev pub open_after : Step → List Bool → List Bool
open_after (steps.PushSet source) bs = bs
open_after steps.PushEverything bs = bs
open_after steps.PushNoEvents bs = bs
open_after (steps.BlendSets how) bs = bs
open_after steps.ComplementSet bs = bs
open_after (steps.PushRelation source) bs = without_next bs
open_after steps.PushNoPairs bs = without_next bs
open_after (steps.BlendRelations blends.Union) bs = next_twice bs
open_after (steps.BlendRelations blends.Intersection) bs = next_twice (next_inside bs)
open_after (steps.BlendRelations blends.Difference) bs = next_twice (next_inside bs)
open_after steps.SequenceRelations bs = next_twice (next_inside bs)
open_after steps.ProductOfSets bs = without_next bs
open_after steps.IdentityOn bs = without_next bs
open_after (steps.Close how) bs = next_inside bs
open_after steps.ComplementRelation bs = next_inside bs

abbrev pub is_operand : List Bool → Bool
is_operand [] = false
is_operand (b ∷ bs) = b

abbrev pub source_where : Bool → Source → Option Source
source_where true source = Some source
source_where false source = None

-- the name that the step adds, where it is an operand
abbrev pub name_at : Step → List Bool → Option Source
name_at (steps.PushRelation source) bs = source_where (is_operand bs) source
name_at step bs = None

-- what is still to come when these steps are read, and the names that they add
abbrev pub open_from : List Step → List Bool
open_from [] = true ∷ []
open_from (x ∷ xs) = open_after x (open_from xs)

abbrev pub names_from : List Step → List Source
names_from [] = []
names_from (x ∷ xs) = cons_option (name_at x (open_from xs)) (names_from xs)
