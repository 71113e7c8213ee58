-- Steps over a stack of growths, the latest first, as they are run. Sets are left out.
use Rattle.std.specs.Prelude.{List, [], ◌∷◌}
use Rattle.binding_graph.specs.declared.resolved.Step.{Step}
use Rattle.binding_graph.specs.declared.resolved.Step.TheVariants as steps
use Rattle.order_growth.specs.declared.growth.Growth.{Growth}
use Rattle.order_growth.specs.declared.growth.Growth.TheVariants.{Stays, Unknown}
use Rattle.order_growth.specs.Growth.{growth_of_both, growth_of_complement, growth_of_blend, source_growth}

abbrev pub top_of : List Growth → Growth
top_of [] = Unknown
top_of (g ∷ gs) = g

abbrev pub below_top : List Growth → List Growth
below_top [] = []
below_top (g ∷ gs) = gs

-- what the step leaves of the stack
abbrev pub growths_after : List Growth → Step → List Growth → List Growth
growths_after inputs (steps.PushSet source) gs = gs
growths_after inputs steps.PushEverything gs = gs
growths_after inputs steps.PushNoEvents gs = gs
growths_after inputs (steps.BlendSets how) gs = gs
growths_after inputs steps.ComplementSet gs = gs
growths_after inputs (steps.PushRelation source) gs = source_growth inputs source ∷ gs
growths_after inputs steps.PushNoPairs gs = Stays ∷ gs
growths_after inputs (steps.BlendRelations how) gs =
    growth_of_blend how (top_of (below_top gs)) (top_of gs) ∷ below_top (below_top gs)
growths_after inputs steps.SequenceRelations gs =
    growth_of_both (top_of (below_top gs)) (top_of gs) ∷ below_top (below_top gs)
growths_after inputs steps.ProductOfSets gs = Stays ∷ gs
growths_after inputs steps.IdentityOn gs = Stays ∷ gs
growths_after inputs (steps.Close how) gs = gs
growths_after inputs steps.ComplementRelation gs = growth_of_complement (top_of gs) ∷ below_top gs
