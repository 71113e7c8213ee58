use Rattle.std.proofs.Common.{◌≡◌, ◌+◌, take, length}
use Rattle.candidate_spaces.specs.Space.{candidates_in}
use Rattle.candidate_spaces.proofs.candidate.Space.execution.Given as goal

abbrev pub invariant-loop-combination : goal.invariant-loop-combination
invariant-loop-combination l =
    length (candidates_in (take l.combination-index l.self.combinations.items)) + l.left ≡ l.index
