use Rattle.std.proofs.Common.{◌≡◌, ◌↔◌, length}
use Rattle.candidate_spaces.specs.Same.{left_in, shown_left}
use Rattle.candidate_spaces.proofs.same.are_same.Given as goal

abbrev pub invariant-loop-one : goal.invariant-loop-one
invariant-loop-one l =
    (shown_left l.first_ends l.fn.first ≡ shown_left l.second_ends l.fn.second)
    ↔ (shown_left l.first_ends l.first ≡ shown_left l.second_ends l.second)

abbrev pub decreases-loop-one : goal.decreases-loop-one
decreases-loop-one l = length (left_in l.first)
