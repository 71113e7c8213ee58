use Rattle.std.proofs.Common.{◌≡◌, ◌++◌, drop}
use Rattle.memo_engine.proofs.work.copy_outputs.Given as goal

abbrev pub invariant-loop-output : goal.invariant-loop-output
invariant-loop-output g l = l.copies.items ++ drop l.output-index l.outputs ≡ l.outputs
