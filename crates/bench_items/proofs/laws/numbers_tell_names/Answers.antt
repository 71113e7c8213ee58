use Rattle.bench_items.proofs.Naming.{number_tells}
use Rattle.bench_items.proofs.laws.numbers_tell_names.Goals as goal

pub returns : goal.returns
returns c = number_tells
