use Rattle.std.proofs.Common.{arith}
use Rattle.bit_rows.proofs.Bits.{Bit-zero, Bit-lowest}
use Rattle.bit_rows.proofs.word.lowest_bits.Goals as goal

pub returns-then-count-eq0 : goal.returns-then-count-eq0
returns-then-count-eq0 c =
    λ b. ((λ h. absurd (Bit-zero b h)), (λ h. absurd (omega (arith, h, c.if-count-eq0.true))))

pub returns-else-count-eq0 : goal.returns-else-count-eq0
returns-else-count-eq0 c = λ b. Bit-lowest c.args.count b c.requires
