use Rattle.bit_rows.specs.Rows.{RowsHave, AllFit, AreRowsFilled}
use Rattle.bit_rows.proofs.words.copy.Given as goal

abbrev pub invariant-loop-a : goal.invariant-loop-a
invariant-loop-a l = AllFit l.others → AreRowsFilled l.initial.words l.words l.a (RowsHave l.others)
