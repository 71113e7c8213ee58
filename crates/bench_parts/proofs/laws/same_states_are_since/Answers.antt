use Rattle.bench_parts.proofs.SameWritten.{since_is}
use Rattle.bench_parts.proofs.laws.same_states_are_since.Goals as goal

pub returns : goal.returns
returns c = λ r w v same since. since_is w v same r since
