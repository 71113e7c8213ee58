use Rattle.std.proofs.Common.{arith}
use Rattle.bit_rows.proofs.Writing.{written_none, written_more}
use Rattle.bit_relations.proofs.rows.invert.Goals as goal

pub loop-a-init : goal.loop-a-init
loop-a-init c = written_none _ _

pub loop-a-preserved : goal.loop-a-preserved
loop-a-preserved c =
    written_more _ _ _ _ _ (omega (arith, c.told-words)) c.loop-a.invariant c.leading_to.type_inv
    c.leading_to.ensures
