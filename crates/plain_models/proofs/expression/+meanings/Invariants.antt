use Rattle.std.proofs.Common.{◌+◌, map, take}
use Rattle.std.specs.Prelude.{slice_get}
use Rattle.text_values.specs.ModelValue.{gathered}
use Rattle.text_values.specs.ModelValues.{term_of}
use Rattle.meaning_plain.specs.Lists.{SetOf}
use Rattle.plain_models.specs.Values.{HaveValues}
use Rattle.plain_models.specs.Scopes.{names_in}
use Rattle.plain_models.proofs.Weights.{term_weight, terms_weight, item_weight, outer_weight}
use Rattle.plain_models.proofs.expression.+meanings.Given as goal

abbrev pub decreases-meant : goal.decreases-meant
decreases-meant l =
    term_weight (term_of l.expression.now)
    + outer_weight l.scope.now.items.now l.scope.now.outer.now

abbrev pub decreases-meant_all : goal.decreases-meant_all
decreases-meant_all l =
    terms_weight (gathered (map term_of l.arguments.now))
    + outer_weight l.scope.now.items.now l.scope.now.outer.now

abbrev pub decreases-applied : goal.decreases-applied
decreases-applied l =
    outer_weight l.scope.now.items.now (take (l.index + 1) l.scope.now.outer.now)

abbrev pub invariant-meant_all-loop-argument : goal.invariant-meant_all-loop-argument
invariant-meant_all-loop-argument l =
    HaveValues (SetOf l.scope.all.now)
    (names_in (SetOf l.scope.all.now) l.scope.items.now l.scope.outer.now l.scope.names.now l.scope.values.now)
    (map term_of (take l.argument-index l.arguments)) l.values.items

abbrev pub decreases-applied_item : goal.decreases-applied_item
decreases-applied_item l =
    2 + item_weight (slice_get l.scope.now.items.now l.item)
    + outer_weight l.scope.now.items.now (take l.index l.scope.now.outer.now)

abbrev pub decreases-applied_body : goal.decreases-applied_body
decreases-applied_body l =
    1 + term_weight (term_of l.body.now)
    + outer_weight l.scope.now.items.now (take l.index l.scope.now.outer.now)
