use Rattle.std.proofs.Common.{rules}
use Rattle.std.proofs.lemmas.Nat.Bits.{shr_and_one}
use Rattle.bit_rows.specs.Relation.{Bit}
use Rattle.bit_rows.proofs.word.has_bit.Goals as goal

pub returns : goal.returns
unfolding Bit
returns c = rw shr_and_one (search rules)
