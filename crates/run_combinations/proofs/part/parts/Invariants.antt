use Rattle.std.proofs.Common.{take}
use Rattle.run_combinations.specs.Parts.{IsMade}
use Rattle.std.specs.List.{AllZip}
use Rattle.run_combinations.proofs.part.parts.Given as goal

abbrev pub invariant-loop-sketch : goal.invariant-loop-sketch
invariant-loop-sketch l =
    AllZip (IsMade l.thread l.runs) (take l.sketch-index l.sketches) l.parts.items
