use Rattle.bit_rows.specs.Rows.{AreRowsFilled, Read}
use Rattle.bit_rows.proofs.words.read.Given as goal

abbrev pub invariant-loop-a : goal.invariant-loop-a
invariant-loop-a l = AreRowsFilled l.initial.words l.words l.a (Read l.list l.at l.all)
