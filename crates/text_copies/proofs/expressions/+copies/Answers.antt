use Rattle.text_copies.proofs.Applied.{copied_application}
use Rattle.text_copies.proofs.expressions.+copies.Goals as goal

pub copied_expression-returns-in_ok-copied-in-Applied : goal.copied_expression-returns-in_ok-copied-in-Applied
copied_expression-returns-in_ok-copied-in-Applied t c =
    copied_application c.args.expression.now c.in_ok-copied-in-Applied.field-0 c.in-Applied.name
    c.in_ok-arguments-in-Applied.arguments c.in-Applied.arguments c.deref-in-Applied.result.now
    c.in-Applied.is c.in_ok-copied-in-Applied.ensures c.deref-in-Applied.ensures.value
    c.in_ok-arguments-in-Applied.ensures
