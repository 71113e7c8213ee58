use Rattle.bit_rows.proofs.Bits.{spread, Bit-spread}
use Rattle.bit_rows.proofs.word.union_where.Goals as goal

pub returns : goal.returns
unfolding spread
returns c = λ b. Bit-spread _ _ _ _ b c.ranges.other.fits
