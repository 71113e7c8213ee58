use Rattle.std.proofs.Common.{take}
use Rattle.meaning.specs.Outcome.{IsStateBefore}
use Rattle.meanings_exist.specs.Sorted.{IsInOrder}
use Rattle.plain_outcomes.specs.States.{states_as, ends_as}
use Rattle.plain_outcomes.proofs.states.sorted_states.Given as goal

abbrev pub invariant-loop-end : goal.invariant-loop-end
invariant-loop-end l =
    IsInOrder IsStateBefore (take l.end-index (ends_as l.ends)) (states_as l.states.items)
