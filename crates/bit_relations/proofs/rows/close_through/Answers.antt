use Rattle.std.proofs.Common.{sym, ◌∙◌}
use Rattle.bit_rows.proofs.Wide.{low_bit, high_bit}
use Rattle.bit_rows.proofs.Columns.{put_together, made_pairs}
use Rattle.bit_rows.proofs.Closing.{through}
use Rattle.bit_relations.proofs.rows.close_through.Goals as goal

pub returns-then-middle-lt64 : goal.returns-then-middle-lt64
returns-then-middle-lt64 c =
    let e = c.told-low ∙ sym c.told-high in
    let m = through _ _ _ _ _ _ _ _ _ c.blocks_of-blocks.ensures.all c.requires.columns (λ x. let w = low_bit _ _ x _ e c.if-middle-lt64.true in (w.1, w.0)) c.join_both.ensures.own c.join_both.ensures.other in
    record { columns = put_together m; pairs = made_pairs _ _ _ _ m }

pub returns-else-middle-lt64 : goal.returns-else-middle-lt64
returns-else-middle-lt64 c =
    let e = c.told-low ∙ sym c.told-high in
    let m = through _ _ _ _ _ _ _ _ _ c.blocks_of-blocks.ensures.all c.requires.columns (λ x. let w = high_bit _ _ x _ e c.fits-low c.if-middle-lt64.false in (w.1, w.0)) c.join_both-else-middle-lt64.ensures.other c.join_both-else-middle-lt64.ensures.own in
    record { columns = put_together m; pairs = made_pairs _ _ _ _ m }
