use Rattle.std.proofs.lemmas.Slice.Eq.{slice_eq-Decides}
use Rattle.outcome_states.proofs.Orders.{value_eq-Decides}
use Rattle.outcome_states.proofs.same.same_values.Goals as goal

pub returns : goal.returns
returns c =
    slice_eq-Decides value_eq-Decides c.args.left.now c.args.right.now c.eq.result c.eq.ensures
