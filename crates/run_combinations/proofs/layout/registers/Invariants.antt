use Rattle.std.proofs.Common.{◌≡◌, map, take}
use Rattle.run_combinations.proofs.layout.registers.Given as goal

abbrev pub invariant-loop-thread : goal.invariant-loop-thread
invariant-loop-thread l =
    map (λ w. w.items) l.all.items
    ≡ map (λ t. map (λ p. p.registers) t.parts.items) (take l.thread-index l.threads)
