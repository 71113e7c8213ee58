use Rattle.bit_rows.proofs.Bits.{Bit-and_not}
use Rattle.bit_rows.proofs.word.left_alone.Goals as goal

pub returns : goal.returns
returns c = λ b. Bit-and_not _ _ b c.ranges.left.fits c.ranges.right.fits
