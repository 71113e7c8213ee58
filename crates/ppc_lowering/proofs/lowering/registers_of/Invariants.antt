use Rattle.std.proofs.Common.{take}
use Rattle.ppc_lowering.specs.Lowering.{AreFiles}
use Rattle.ppc_lowering.proofs.lowering.registers_of.Given as goal

abbrev pub invariant-loop-entry : goal.invariant-loop-entry
invariant-loop-entry l =
    AreFiles (take l.entry-index l.init) l.locations l.threads l.registers.items
