use Rattle.std.proofs.Common.{take}
use Rattle.ppc_lowering.specs.Lowering.{AreInitial}
use Rattle.ppc_lowering.proofs.lowering.initial_of.Given as goal

abbrev pub invariant-loop-entry : goal.invariant-loop-entry
invariant-loop-entry l = AreInitial (take l.entry-index l.init) l.locations l.initial'.items
