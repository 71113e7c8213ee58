use Rattle.std.proofs.Common.{take}
use Rattle.std.specs.List.{AllZip}
use Rattle.plain_outcomes.specs.States.{states_as, IsCountedOf}
use Rattle.plain_outcomes.proofs.states.counted_states.Given as goal

abbrev pub invariant-loop-values : goal.invariant-loop-values
invariant-loop-values l =
    AllZip (IsCountedOf l.ends) (take l.values-index (states_as l.states)) l.all.items
