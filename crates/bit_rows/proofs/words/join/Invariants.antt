use Rattle.bit_rows.specs.Pairs.{Union}
use Rattle.bit_rows.specs.Rows.{RowsHave, AreRowsFilled}
use Rattle.bit_rows.proofs.words.join.Given as goal

abbrev pub invariant-loop-a : goal.invariant-loop-a
invariant-loop-a l =
    AreRowsFilled l.initial.words l.words l.a (Union (RowsHave l.initial.words) (RowsHave l.others))
