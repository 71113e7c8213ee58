use Rattle.std.proofs.Common.{arith}
use Rattle.bit_rows.proofs.Writing.{written_none, written_more}
use Rattle.bit_rows.proofs.words.copy.Goals as goal

pub loop-a-init : goal.loop-a-init
loop-a-init c = λ f. written_none _ _

pub loop-a-preserved : goal.loop-a-preserved
loop-a-preserved c =
    λ f. written_more _ _ _ _ _ (omega (arith, c.told-words)) (c.loop-a.invariant f) (f _)
    (λ b. ((λ h. h), (λ h. h)))
