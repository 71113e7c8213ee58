use Rattle.bit_rows.proofs.Bits.{Bit-or}
use Rattle.run_combinations.proofs.key_words.either.Goals as goal

pub returns : goal.returns
returns c = λ b. Bit-or _ _ b
