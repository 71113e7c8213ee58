use Rattle.std.proofs.Common.{◌≡◌, ◌↔◌, drop}
use Rattle.candidate_spaces.specs.Space.{registers_at}
use Rattle.candidate_spaces.proofs.same.are_same_ends.Given as goal

abbrev pub invariant-loop-thread : goal.invariant-loop-thread
invariant-loop-thread l =
    (registers_at l.first l.first_runs ≡ registers_at l.second l.second_runs)
    ↔ (registers_at (drop l.thread l.first) (drop l.thread l.first_runs)
    ≡ registers_at (drop l.thread l.second) (drop l.thread l.second_runs))
