use Rattle.std.proofs.Common.{take}
use Rattle.run_combinations.specs.Parts.{AreThreadParts}
use Rattle.run_combinations.proofs.layout.all_parts.Given as goal

abbrev pub invariant-loop-thread : goal.invariant-loop-thread
invariant-loop-thread l =
    AreThreadParts 0 (take l.thread l.runs) (take l.thread l.sketches) l.threads.items
