use Rattle.std.proofs.Common.{◌≡◌, map, take}
use Rattle.text_values.specs.ModelValues.{term_of}
use Rattle.text_copies.proofs.expressions.+copies.Given as goal

abbrev pub invariant-copied_expressions-loop-expression : goal.invariant-copied_expressions-loop-expression
invariant-copied_expressions-loop-expression l =
    map term_of l.copies.items ≡ map term_of (take l.expression-index l.expressions)
