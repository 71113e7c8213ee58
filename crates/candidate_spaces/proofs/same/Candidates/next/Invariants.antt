use Rattle.std.proofs.Common.{◌≡◌, length}
use Rattle.candidate_spaces.specs.Same.{left_in}
use Rattle.candidate_spaces.proofs.same.Candidates.next.Given as goal

abbrev pub invariant-loop-combination : goal.invariant-loop-combination
invariant-loop-combination l = left_in l.initial.self ≡ left_in l.self

abbrev pub decreases-loop-combination : goal.decreases-loop-combination
decreases-loop-combination l = length l.self.combinations.now
