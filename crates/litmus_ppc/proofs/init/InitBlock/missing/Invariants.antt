use Rattle.std.proofs.Common.{◌≡◌, drop}
use Rattle.litmus_grammar.specs.InitMachine.{missing}
use Rattle.litmus_ppc.proofs.init.InitBlock.missing.Given as goal

abbrev pub invariant-loop-i : goal.invariant-loop-i
invariant-loop-i l =
    missing l.threads l.self.entries.items l.self.starts.items
    ≡ missing l.threads (drop l.i l.self.entries.items) (drop l.i l.self.starts.items)
