use Rattle.std.proofs.Common.{refl}
use Rattle.binding_functions.proofs.part.BodyPart.nameless.Goals as goal

pub returns : goal.returns
returns c =
    λ arity. record {
      fault = refl;
      marks = c.unmarked.ensures;
      column = c.in_ok-constant_column.ensures arity;
    }
