use Rattle.run_combinations.proofs.Keying.{no_bits}
use Rattle.run_combinations.proofs.keys.KeySet.empty.Goals as goal

pub invariant_of-result-clause-ends : goal.invariant_of-result-clause-ends
invariant_of-result-clause-ends c = λ a b h. absurd (no_bits 32 a b h)

pub returns : goal.returns
returns c = λ a b h. no_bits 32 a b h
