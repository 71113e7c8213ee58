use Rattle.std.proofs.Common.{◌*◌}
use Rattle.bit_rows.specs.Rows.{RowsHave, AreRowsFilled, UnionWhere}
use Rattle.bit_rows.proofs.lanes.join_both.Given as goal

abbrev pub invariant-loop-block : goal.invariant-loop-block
invariant-loop-block l =
    AreRowsFilled l.initial.own l.own (8 * l.block) (UnionWhere (RowsHave l.initial.own)
    (RowsHave l.initial.own) l.k l.own_word)
    × AreRowsFilled l.initial.other l.other (8 * l.block) (UnionWhere (RowsHave l.initial.other)
    (RowsHave l.initial.own) l.k l.other_word)
