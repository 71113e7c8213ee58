use Rattle.std.proofs.Common.{length, refl}
use Rattle.binding_kinds.specs.Columns.{gathered_in}
use Rattle.binding_functions.proofs.Applied.{terms_in}
use Rattle.binding_functions.proofs.Parts.{applied_part}
use Rattle.binding_functions.proofs.part.BodyArguments.applied.Goals as goal

pub returns : goal.returns
returns c = λ ss names ps rows under x xs s kept long seen faultless all.
    applied_part ss names ps rows under x xs c.args.function.now s c.args.self _ kept long seen
    faultless all refl refl (λ few. c.in_ok-applied_column.ensures (length ps) rows
    (gathered_in ss names ps (terms_in xs)) (rw c.deref.ensures.value (all.known few)))
