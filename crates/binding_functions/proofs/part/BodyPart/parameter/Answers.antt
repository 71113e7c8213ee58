use Rattle.std.proofs.Common.{length, refl}
use Rattle.binding_kinds.specs.declared.kinds.Kind.TheVariants.{OfAny}
use Rattle.binding_functions.proofs.Parts.{parameter_part}
use Rattle.binding_functions.proofs.part.BodyPart.parameter.Goals as goal

pub returns : goal.returns
returns c =
    λ ss names ps x is. parameter_part ss names ps c.args.columns.rows c.args.under x c.args.index _
    is refl c.marked.ensures (c.in_ok-parameter_column.ensures (length ps) OfAny)
