use Rattle.bit_rows.specs.Rows.{AreRowsFilled, Nothing}
use Rattle.bit_rows.proofs.words.clear.Given as goal

abbrev pub invariant-loop-a : goal.invariant-loop-a
invariant-loop-a l = AreRowsFilled l.initial.words l.words l.a Nothing
