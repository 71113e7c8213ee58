-- How the names of all items of a model change. Items and their growths are listed the latest
-- first, as in `Answers` of from_scratch. Read next: CutLaws.
use Rattle.std.specs.Prelude.{◌≡◌, nat_eq, List, [], ◌∷◌, length, map, slice_index_or, if◌then◌else◌}
use Rattle.std.specs.List.{AllByRecursion}
use Rattle.binding_kinds.specs.declared.scope.Input.{Input}
use Rattle.binding_graph.specs.declared.resolved.ResolvedItem.{ResolvedItem}
use Rattle.binding_graph.specs.declared.resolved.Role.{Role}
use Rattle.binding_graph.specs.declared.resolved.Role.TheVariants as roles
use Rattle.order_growth.specs.declared.growth.Growth.{Growth}
use Rattle.order_growth.specs.declared.growth.Growth.TheVariants.{Unknown}
use Rattle.order_growth.specs.Growth.{AreGroupGrowths}
use Rattle.order_growth.specs.Within.{AreBodyExpressions}

-- how a name changes, by the growths of the names of each item: nothing is known of a name that is
-- not there
abbrev pub growth_in : List (List Growth) → Input → Growth
growth_in [] name = Unknown
growth_in (names ∷ gs) name =
    if nat_eq name.item (length gs) then slice_index_or names name.position Unknown
    else growth_in gs name

-- the growths of the names that an item uses, in its order
abbrev pub input_growths : List (List Growth) → List Input → List Growth
input_growths gs inputs = map (growth_in gs) inputs

-- these are the growths of the names of an item, from those of earlier items
abbrev pub AreItemGrowths : List (List Growth) → List Input → Role → List Growth → Type 0
AreItemGrowths gs inputs (roles.Group recursive bodies) names =
    AreGroupGrowths (input_growths gs inputs) recursive bodies.items names
AreItemGrowths gs inputs (roles.Check check) names = names ≡ []
AreItemGrowths gs inputs roles.Silent names = names ≡ []

abbrev pub AreAllGrowths : List (List Growth) → List ResolvedItem → Type 0
AreAllGrowths [] [] = Unit {0}
AreAllGrowths [] (r ∷ rs) = ⊥
AreAllGrowths (names ∷ gs) [] = ⊥
AreAllGrowths (names ∷ gs) (r ∷ rs) =
    AreItemGrowths gs r.inputs.items r.role names × AreAllGrowths gs rs

-- the bodies of an item are expressions
abbrev pub HasExpressions : Role → Type 0
HasExpressions (roles.Group recursive bodies) = AreBodyExpressions recursive bodies.items
HasExpressions (roles.Check check) = Unit {0}
HasExpressions roles.Silent = Unit {0}

abbrev pub HaveExpressions : List ResolvedItem → Type 0
HaveExpressions items = AllByRecursion (λ r. HasExpressions r.role) items
