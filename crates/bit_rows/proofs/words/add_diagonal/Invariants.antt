use Rattle.bit_rows.specs.Rows.{RowsHave, AreRowsFilled, WithOwn}
use Rattle.bit_rows.proofs.words.add_diagonal.Given as goal

abbrev pub invariant-loop-a : goal.invariant-loop-a
invariant-loop-a l =
    AreRowsFilled l.initial.words l.words l.a (WithOwn l.at (RowsHave l.initial.words))
