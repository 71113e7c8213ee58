use Rattle.text_values.proofs.Arguments.{same_applications}
use Rattle.text_values.proofs.+same.Goals as goal

pub model::Expression::is_same-returns-then-is_same-2 : goal.model::Expression::is_same-returns-then-is_same-2
model::Expression::is_same-returns-then-is_same-2 t c =
    same_applications c.args.self.now (_) c.in-Applied.name c.in-Some-applied_parts.n.now
    c.in-Applied.arguments c.deref-then-is_same-2.result.now c.in-Some-applied_parts.others.now
    c.are_same.result
    c.in-Applied.is c.deref-then-is_same-2.ensures.value c.in-Some-applied_parts.ensures
    (c.is_same-in-Some-applied_parts.ensures.0 c.if-is_same-2.true) c.are_same.ensures
