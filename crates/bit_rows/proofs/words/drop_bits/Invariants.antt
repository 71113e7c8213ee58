use Rattle.bit_rows.specs.Pairs.{Minus}
use Rattle.bit_rows.specs.Rows.{RowsHave, AreRowsFilled}
use Rattle.bit_rows.proofs.words.drop_bits.Given as goal

abbrev pub invariant-loop-a : goal.invariant-loop-a
invariant-loop-a l =
    AreRowsFilled l.initial.words l.words l.a (Minus (RowsHave l.initial.words) (RowsHave l.others))
