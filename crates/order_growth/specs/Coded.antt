-- Items whose steps are those of expressions. Read `Within` first.
use Rattle.std.specs.Prelude.{List}
use Rattle.std.specs.List.{AllByRecursion}
use Rattle.text_values.specs.declared.model.ModelText.{ModelText}
use Rattle.binding_graph.specs.declared.resolved.ResolvedItem.{ResolvedItem}
use Rattle.binding_graph.specs.declared.resolved.Role.{Role}
use Rattle.binding_graph.specs.declared.resolved.Role.TheVariants as roles
use Rattle.from_scratch.specs.FromScratch.{AreItemsOf, IsFaultless}
use Rattle.order_growth.specs.Within.{HasExpression, AreBodyExpressions}

-- the bodies of a group are expressions, and so is what a check asks about
abbrev pub IsOfExpressions : Role → Type 0
IsOfExpressions (roles.Group recursive bodies) = AreBodyExpressions recursive bodies.items
IsOfExpressions (roles.Check check) = HasExpression check.code.kind check.code.steps.items
IsOfExpressions roles.Silent = Unit {0}

abbrev pub AreOfExpressions : List ResolvedItem → Type 0
AreOfExpressions items = AllByRecursion (λ r. IsOfExpressions r.role) items

-- The items of a model without fault are.
abbrev pub AreItemsExpressions : ModelText → Type 0
AreItemsExpressions model =
    (items : List ResolvedItem) → IsFaultless model → AreItemsOf model items
    → AreOfExpressions items
