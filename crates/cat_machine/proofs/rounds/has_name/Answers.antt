use Rattle.std.proofs.Common.{rules}
use Rattle.std.proofs.lemmas.Nat.Bits.{shr_and_one}
use Rattle.cat_machine.specs.Uses.{IsAmong}
use Rattle.cat_machine.proofs.rounds.has_name.Goals as goal

pub returns : goal.returns
unfolding IsAmong
returns c = rw (shr_and_one, ← c.bit_of.ensures.bit) (search rules)
