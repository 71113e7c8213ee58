use Rattle.bit_rows.proofs.Columns.{put_together, made_relation}
use Rattle.bit_relations.proofs.Making.{nothing_made}
use Rattle.bit_relations.proofs.rel.Rel.empty.Goals as goal

pub invariant_of-result : goal.invariant_of-result
invariant_of-result c =
    put_together (nothing_made _ _ _ c.requires c.none.ensures.height c.none-2.ensures.height
    c.none.ensures.zero c.none-2.ensures.zero)

pub returns : goal.returns
returns c =
    made_relation (nothing_made _ _ _ c.requires c.none.ensures.height c.none-2.ensures.height
    c.none.ensures.zero c.none-2.ensures.zero)
