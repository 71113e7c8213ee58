use Rattle.bench_parts.proofs.Keeping.{states_are_sound}
use Rattle.bench_parts.proofs.laws.states_are_sound.Goals as goal

pub returns : goal.returns
returns c = states_are_sound
