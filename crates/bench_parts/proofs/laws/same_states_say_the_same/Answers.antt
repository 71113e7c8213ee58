use Rattle.bench_parts.proofs.Same.{net_is}
use Rattle.bench_parts.proofs.laws.same_states_say_the_same.Goals as goal

pub returns : goal.returns
returns c = λ s t same. net_is s t same
