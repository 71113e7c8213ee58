use Rattle.bit_rows.proofs.Bits.{Bit-set}
use Rattle.bit_rows.proofs.word.with_bit.Goals as goal

pub returns : goal.returns
returns c = λ b. Bit-set _ _ b c.requires
