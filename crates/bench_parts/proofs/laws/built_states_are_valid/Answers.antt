use Rattle.bench_parts.proofs.Built.{built_valid}
use Rattle.bench_parts.proofs.laws.built_states_are_valid.Goals as goal

pub returns : goal.returns
returns c = built_valid
