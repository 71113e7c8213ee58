use Rattle.bit_rows.specs.Relation.{wide_word}
use Rattle.bit_rows.specs.Rows.{RowsHave, AreRowsFilled, Kept}
use Rattle.bit_rows.proofs.words.keep.Given as goal

abbrev pub invariant-loop-a : goal.invariant-loop-a
invariant-loop-a l =
    AreRowsFilled l.initial.words l.words l.a (Kept (wide_word l.low l.high) l.word
    (RowsHave l.initial.words))
