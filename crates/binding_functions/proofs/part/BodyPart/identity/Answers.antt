use Rattle.std.proofs.Common.{length}
use Rattle.binding_kinds.specs.Columns.{signature_in}
use Rattle.binding_functions.proofs.part.BodyPart.identity.Goals as goal

pub returns : goal.returns
returns c = λ ss names ps rows under a inner. record {
  fault = inner.fault;
  marks = inner.marks;
  column =
      λ few. c.in_ok-identity_column.ensures (length ps) rows (signature_in ss names ps a)
      (rw c.deref.ensures.value (inner.column few));
}
