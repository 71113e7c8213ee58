use Rattle.std.proofs.Common.{sym, ◌∙◌}
use Rattle.bit_rows.proofs.Writing.{one_joined, both_joined}
use Rattle.bit_relations.proofs.rows.compose.Goals as goal

pub returns-then-count-gt64 : goal.returns-then-count-gt64
returns-then-count-gt64 c =
    both_joined _ _ _ _ _ _ _ _ _ _ (c.told-low ∙ sym c.told-high) c.fits-low c.in_low.ensures.few
    c.in_low.ensures.cut c.in_high.ensures.cut c.join_block.ensures
    c.join_block-then-count-gt64.ensures

pub returns-else-count-gt64 : goal.returns-else-count-gt64
returns-else-count-gt64 c =
    one_joined _ _ _ _ _ _ _ _ (c.told-low ∙ sym c.told-high) c.if-count-gt64.false
    c.in_low.ensures.few c.in_low.ensures.cut c.join_block.ensures
