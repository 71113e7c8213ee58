use Rattle.bit_rows.specs.Relation.{wide}
use Rattle.bit_rows.specs.Rows.{RowsHave, AreRowsFilled, InverseFrom}
use Rattle.bit_relations.proofs.rows.invert.Given as goal

abbrev pub invariant-loop-a : goal.invariant-loop-a
invariant-loop-a l =
    AreRowsFilled l.initial.words l.words l.a (InverseFrom l.at l.part (RowsHave (wide l.low l.high)))
