use Rattle.bit_rows.proofs.Columns.{columns_relation}
use Rattle.bit_relations.proofs.rel.Rel.close.Goals as goal

pub returns : goal.returns
returns c = rw (← c.self.view_is) (columns_relation c.close.ensures.columns c.close.ensures.pairs)
