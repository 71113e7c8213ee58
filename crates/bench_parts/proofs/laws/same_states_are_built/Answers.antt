use Rattle.bench_parts.proofs.Same.{built_is}
use Rattle.bench_parts.proofs.laws.same_states_are_built.Goals as goal

pub returns : goal.returns
returns c = λ s t models same built. built_is s t same models built
