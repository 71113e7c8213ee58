use Rattle.std.proofs.Common.{length}
use Rattle.binding_kinds.specs.Columns.{signature_in}
use Rattle.binding_functions.proofs.Parts.{joined_part}
use Rattle.binding_functions.proofs.part.BodyPart.infix.Goals as goal

pub returns : goal.returns
returns c = λ ss names ps rows under a b left right.
    joined_part ss names ps rows under c.args.op a b c.args.left c.args.right _ left right
    c.or_else.ensures c.either_of_each.ensures
    (λ few. c.in_ok-infix_column.ensures (length ps) rows (signature_in ss names ps a)
    (signature_in ss names ps b) (rw c.deref.ensures.value (left.column few))
    (rw c.deref-2.ensures.value (right.column few)))
