use Rattle.std.proofs.Common.{take}
use Rattle.run_combinations.specs.Parts.{AreSketches}
use Rattle.std.specs.List.{AllZip}
use Rattle.run_combinations.proofs.layout.all_sketches.Given as goal

abbrev pub invariant-loop-thread : goal.invariant-loop-thread
invariant-loop-thread l =
    AllZip (λ r s. AreSketches l.domain.values.items r.items s.items) (take l.thread-index l.runs)
    l.threads.items
