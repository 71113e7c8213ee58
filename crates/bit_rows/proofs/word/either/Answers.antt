use Rattle.bit_rows.proofs.Bits.{Bit-or}
use Rattle.bit_rows.proofs.word.either.Goals as goal

pub returns : goal.returns
returns c = λ b. Bit-or _ _ b
