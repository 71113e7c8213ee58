use Rattle.std.proofs.Common.{length, refl}
use Rattle.binding_functions.proofs.part.BodyArguments.none.Goals as goal

pub returns : goal.returns
returns c =
    λ ss names ps under turned. record {
      fault = refl;
      marks = c.unmarked.ensures;
      known = λ few. c.in_ok-no_arguments.ensures (length ps);
    }
