use Rattle.std.proofs.Common.{◌≡◌, ◌++◌, take, drop, map}
use Rattle.report_details.specs.States.{with_state}
use Rattle.report_details.proofs.states.index_for.Given as goal

abbrev pub invariant-loop-index : goal.invariant-loop-index
invariant-loop-index l =
    with_state (map (λ s. s.now) l.states) l.state
    ≡ map (λ s. s.now) (take l.index l.states)
    ++ with_state (map (λ s. s.now) (drop l.index l.states)) l.state
