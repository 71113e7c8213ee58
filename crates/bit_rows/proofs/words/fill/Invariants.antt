use Rattle.bit_rows.specs.Relation.{wide_word}
use Rattle.bit_rows.specs.Rows.{AreRowsFilled, WordProduct}
use Rattle.bit_rows.proofs.words.fill.Given as goal

abbrev pub invariant-loop-a : goal.invariant-loop-a
invariant-loop-a l = AreRowsFilled l.initial.words l.words l.a (WordProduct (wide_word l.low l.high) l.word)
