use Rattle.std.proofs.Common.{◌≡◌, ◌++◌, drop}
use Rattle.memo_engine.proofs.work.copy_values.Given as goal

abbrev pub invariant-loop-value : goal.invariant-loop-value
invariant-loop-value g l = l.copies.items ++ drop l.value-index l.values ≡ l.values
