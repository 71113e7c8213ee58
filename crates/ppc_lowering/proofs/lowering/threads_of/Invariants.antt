use Rattle.std.proofs.Common.{take}
use Rattle.ppc_lowering.specs.Lowering.{AreThreadLines}
use Rattle.ppc_lowering.proofs.lowering.threads_of.Given as goal

abbrev pub invariant-loop-thread : goal.invariant-loop-thread
invariant-loop-thread l = AreThreadLines (take l.thread-index l.threads) l.made.items
