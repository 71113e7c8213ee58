use Rattle.std.proofs.Common.{◌*◌}
use Rattle.bit_rows.specs.Rows.{RowsHave, AreRowsFilled, UnionWhere}
use Rattle.bit_rows.proofs.lanes.join_own.Given as goal

abbrev pub invariant-loop-block : goal.invariant-loop-block
invariant-loop-block l =
    AreRowsFilled l.initial.words l.words (8 * l.block) (UnionWhere (RowsHave l.initial.words)
    (RowsHave l.initial.words) l.k l.word)
