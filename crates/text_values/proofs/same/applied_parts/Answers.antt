use Rattle.std.proofs.Common.{List, ap, sym, ◌∙◌}
use Rattle.std.specs.Prelude.{map}
use Rattle.text_values.specs.declared.model.Expression.{Expression}
use Rattle.text_values.specs.ModelValue.{Apply, gathered}
use Rattle.text_values.specs.ModelValues.{term_of}
use Rattle.text_values.proofs.Arguments.{applied_term}
use Rattle.text_values.proofs.same.applied_parts.Goals as goal

pub returns-in-Applied : goal.returns-in-Applied
returns-in-Applied c =
    ap term_of c.in-Applied.is
    ∙ applied_term c.in-Applied.name c.in-Applied.arguments
    ∙ ap (λ (l : List Expression). Apply c.in-Applied.name (gathered (map term_of l)))
    (sym c.as_slice.ensures.value)
