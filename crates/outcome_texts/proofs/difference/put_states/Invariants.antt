use Rattle.std.proofs.Common.{◌≡◌, ◌++◌, take}
use Rattle.outcome_texts.specs.Differences.{state_differences}
use Rattle.outcome_texts.proofs.difference.put_states.Given as goal

abbrev pub invariant-loop-state : goal.invariant-loop-state
invariant-loop-state l =
    l.text.items ≡ l.initial.text.items ++ state_differences (take l.state-index l.states)
