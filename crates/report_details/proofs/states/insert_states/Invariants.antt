use Rattle.std.proofs.Common.{◌≡◌, drop, map, fold}
use Rattle.report_details.specs.States.{with_state}
use Rattle.report_details.proofs.states.insert_states.Given as goal

abbrev pub invariant-loop-state : goal.invariant-loop-state
invariant-loop-state l =
    fold with_state (map (λ s. s.now) l.states.items) (drop l.state-index l.more)
    ≡ fold with_state (map (λ s. s.now) l.initial.states.items) l.more
