use Rattle.std.proofs.Common.{◌*◌}
use Rattle.bit_rows.specs.Rows.{RowsHave, AreRowsFilled, JoinedFrom}
use Rattle.bit_rows.proofs.lanes.join_block.Given as goal

abbrev pub invariant-loop-block : goal.invariant-loop-block
invariant-loop-block l =
    AreRowsFilled l.initial.words l.words (8 * l.block) (JoinedFrom l.at l.middles
    (RowsHave l.initial.words) (RowsHave l.select) (RowsHave l.others))
