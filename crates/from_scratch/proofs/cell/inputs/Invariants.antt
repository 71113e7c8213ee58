use Rattle.std.proofs.Common.{take}
use Rattle.from_scratch.specs.Known.{AreFound}
use Rattle.from_scratch.proofs.cell.inputs.Given as goal

abbrev pub invariant-loop-input : goal.invariant-loop-input
invariant-loop-input l = AreFound l.columns (take l.input-index l.item.inputs.items) l.found.items
