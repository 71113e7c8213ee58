use Rattle.bit_rows.proofs.Columns.{put_together, made_pairs}
use Rattle.bit_rows.proofs.Closing.{closed_low, low_within}
use Rattle.bit_relations.proofs.rows.close.Goals as goal

pub close_low-requires-clause-within : goal.close_low-requires-clause-within
close_low-requires-clause-within c = low_within _ _ _ c.if-count-le64.true c.requires

pub returns-then-count-le64 : goal.returns-then-count-le64
returns-then-count-le64 c =
    let m = closed_low _ _ _ _ c.if-count-le64.true c.requires c.close_low.ensures.height c.close_low.ensures.fits c.close_low.ensures.pairs in
    record { columns = put_together m; pairs = made_pairs _ _ _ _ m }
