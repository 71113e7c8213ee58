use Rattle.std.proofs.Common.{◌≡◌, [], drop, map, fold}
use Rattle.report_details.specs.States.{with_states}
use Rattle.report_details.proofs.states.all_states.Given as goal

abbrev pub invariant-loop-outcome : goal.invariant-loop-outcome
invariant-loop-outcome l =
    fold with_states (map (λ s. s.now) l.states.items) (drop l.outcome-index l.outcomes)
    ≡ fold with_states [] l.outcomes
