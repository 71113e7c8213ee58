use Rattle.std.proofs.Common.{length, refl}
use Rattle.binding_functions.proofs.Parts.{refused_part}
use Rattle.binding_functions.proofs.part.BodyPart.refused.Goals as goal

pub returns : goal.returns
returns c =
    λ ss names ps under x xs seen faulty. refused_part ss names ps c.args.columns.rows under x xs
    c.args.fault _ seen faulty refl c.unmarked.ensures (c.in_ok-constant_column.ensures (length ps))
