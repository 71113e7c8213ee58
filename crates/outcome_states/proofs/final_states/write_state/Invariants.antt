use Rattle.std.proofs.Common.{◌≡◌, take, map}
use Rattle.outcome_states.specs.Ends.{candidate_final_value}
use Rattle.outcome_states.proofs.final_states.write_state.Given as goal

abbrev pub invariant-loop-observable : goal.invariant-loop-observable
invariant-loop-observable l =
    l.state.items ≡ map (candidate_final_value l.space l.combination l.coherence) (take l.observable-index l.observables)
