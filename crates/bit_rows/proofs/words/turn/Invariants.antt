use Rattle.bit_rows.specs.Rows.{RowsHave, AreRowsFilled, WordComplement}
use Rattle.bit_rows.proofs.words.turn.Given as goal

abbrev pub invariant-loop-a : goal.invariant-loop-a
invariant-loop-a l =
    AreRowsFilled l.initial.words l.words l.a (WordComplement l.all (RowsHave l.initial.words))
