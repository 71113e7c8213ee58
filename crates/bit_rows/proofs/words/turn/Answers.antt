use Rattle.std.proofs.Common.{arith}
use Rattle.bit_rows.proofs.Writing.{written_none, written_more, still}
use Rattle.bit_rows.proofs.words.turn.Goals as goal

pub loop-a-init : goal.loop-a-init
loop-a-init c = written_none _ _

pub loop-a-preserved : goal.loop-a-preserved
loop-a-preserved c =
    written_more _ _ _ _ _ (omega (arith, c.told-words)) c.loop-a.invariant c.left_alone.type_inv
    (rw (still c.loop-a.invariant) at c.left_alone.ensures)
