use Rattle.std.proofs.Common.{◌≡◌, replicate}
use Rattle.ppc_lowering.specs.Lowering.{blank}
use Rattle.ppc_lowering.proofs.lowering.blank_files.Given as goal

abbrev pub invariant-loop : goal.invariant-loop
invariant-loop l = l.registers.items ≡ replicate l.counter blank
