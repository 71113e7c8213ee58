use Rattle.std.proofs.Common.{◌≡◌, take, drop, length, []}
use Rattle.candidate_spaces.specs.Space.{candidates_in}
use Rattle.outcome_states.specs.Counting.{Counts, count_kept}
use Rattle.outcome_states.specs.Ends.{candidate_final_state}
use Rattle.outcome_states.specs.Order.{is_state}
use Rattle.outcome_states.proofs.final_states.final_states.Given as goal

abbrev pub invariant-loop-combination : goal.invariant-loop-combination
invariant-loop-combination l =
    (l.rest
    ≡ drop (length (candidates_in (take l.combination-index l.space.combinations.items)))
    l.kept)
    × Counts [] l.tally.counts.entries (λ v. count_kept
    (λ x. is_state v (candidate_final_state l.space l.observables x)) l.kept (candidates_in
    (take l.combination-index l.space.combinations.items)))
