use Rattle.std.proofs.Common.{ℕ, ◌≡◌, ◌-◌, ◌^◌, min}
use Rattle.ppc_lowering.specs.Domain.{HasCombinations, threads_from}
use Rattle.ppc_semantics.proofs.rounds.count_combinations.Given as goal

abbrev pub invariant-loop-thread : goal.invariant-loop-thread
invariant-loop-thread l =
    (n : ℕ) × HasCombinations (threads_from l.program l.thread) l.values n
    × (l.product ≡ min n (2 ^ 64 - 1))
