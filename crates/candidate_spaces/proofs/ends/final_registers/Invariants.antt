use Rattle.std.proofs.Common.{◌≡◌, ◌++◌, drop}
use Rattle.candidate_spaces.specs.Space.{registers_at}
use Rattle.candidate_spaces.proofs.ends.final_registers.Given as goal

abbrev pub invariant-loop-thread : goal.invariant-loop-thread
invariant-loop-thread l =
    l.found.items ++ registers_at (drop l.thread l.registers) (drop l.thread l.runs)
    ≡ registers_at l.registers l.runs
