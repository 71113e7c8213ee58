use Rattle.bit_rows.proofs.Writing.{column_none, column_more}
use Rattle.bit_relations.proofs.rows.column.Goals as goal

pub loop-a-init : goal.loop-a-init
loop-a-init c = column_none _ _ _

pub loop-a-preserved : goal.loop-a-preserved
loop-a-preserved c =
    column_more _ _ _ _ _ _ _ c.loop-a.invariant c.union_where-column.ensures c.with_bit.ensures
