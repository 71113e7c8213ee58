use Rattle.std.proofs.Common.{◌≡◌, ◌+◌, ◌*◌, length}
use Rattle.text_values.specs.ModelValues.{term_of}
use Rattle.plain_faults.specs.Found.{AreFallingIn, arguments_as, term_weight, terms_weight, names_weight}
use Rattle.plain_faults.proofs.expression.+findings.Given as goal

abbrev pub decreases-in_term : goal.decreases-in_term
decreases-in_term l = 4 * (term_weight (term_of l.expression.now) + names_weight l.names.now)

abbrev pub decreases-in_terms : goal.decreases-in_terms
decreases-in_terms l = 4 * (terms_weight (arguments_as l.arguments.now) + names_weight l.names.now)

abbrev pub decreases-in_plain_terms : goal.decreases-in_plain_terms
decreases-in_plain_terms l =
    4 * (terms_weight (arguments_as l.arguments.now) + names_weight l.names.now) + 1

abbrev pub decreases-in_use : goal.decreases-in_use
decreases-in_use l =
    4 * (terms_weight (arguments_as l.arguments.now) + names_weight l.names.now) + 3

abbrev pub decreases-in_function : goal.decreases-in_function
decreases-in_function l =
    4 * (terms_weight (arguments_as l.arguments.now) + names_weight l.names.now) + 2

abbrev pub decreases-in_body : goal.decreases-in_body
decreases-in_body l = 4 * (term_weight (term_of l.body.now) + names_weight l.names.now) + 1

abbrev pub decreases-is_falling_parameter : goal.decreases-is_falling_parameter
decreases-is_falling_parameter l =
    4 * (term_weight (term_of l.body.now) + names_weight l.names.now) + 2

abbrev pub decreases-falling_parameters : goal.decreases-falling_parameters
decreases-falling_parameters l =
    4 * (term_weight (term_of l.body.now) + names_weight l.names.now) + 3

abbrev pub invariant-falling_parameters-loop-index : goal.invariant-falling_parameters-loop-index
invariant-falling_parameters-loop-index l =
    (length l.all.items ≡ l.index) × AreFallingIn l.names l.parameters l.body l.falling l.all.items
