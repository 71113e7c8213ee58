use Rattle.bit_rows.proofs.Bits.{Bit-and}
use Rattle.bit_rows.proofs.word.both.Goals as goal

pub returns : goal.returns
returns c = λ b. Bit-and _ _ b
