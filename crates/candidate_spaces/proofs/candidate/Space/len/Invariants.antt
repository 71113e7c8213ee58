use Rattle.std.proofs.Common.{◌≡◌, ◌-◌, ◌^◌, min, take, length}
use Rattle.candidate_spaces.specs.Space.{candidates_in}
use Rattle.candidate_spaces.proofs.candidate.Space.len.Given as goal

abbrev pub invariant-loop-combination : goal.invariant-loop-combination
invariant-loop-combination l =
    l.count
    ≡ min (length (candidates_in (take l.combination-index l.self.combinations.items))) (2 ^ 64 - 1)
