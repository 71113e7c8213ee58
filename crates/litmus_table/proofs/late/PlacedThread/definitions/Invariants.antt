use Rattle.std.proofs.Common.{take}
use Rattle.litmus_table.specs.Checks.{AreFirst}
use Rattle.litmus_table.proofs.late.PlacedThread.definitions.Given as goal

abbrev pub invariant-loop-i : goal.invariant-loop-i
invariant-loop-i l = AreFirst l.first (take l.i l.self.steps.items)
