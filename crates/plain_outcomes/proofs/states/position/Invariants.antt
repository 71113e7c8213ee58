use Rattle.std.proofs.Common.{List, take, Contains}
use Rattle.meaning.specs.Machine.{Value}
use Rattle.meaning.specs.Outcome.{IsStateBefore}
use Rattle.plain_ends.specs.Ends.{values_as}
use Rattle.plain_outcomes.specs.States.{states_as}
use Rattle.plain_outcomes.proofs.states.position.Given as goal

abbrev pub invariant-loop-index : goal.invariant-loop-index
invariant-loop-index l =
    (r : List Value) → Contains (take l.index (states_as l.states)) r
    → IsStateBefore r (values_as l.values)
