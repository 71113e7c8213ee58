use Rattle.bench_items.proofs.Naming.{keeps_numbers}
use Rattle.bench_items.proofs.laws.numbers_stay.Goals as goal

pub returns : goal.returns
returns c = keeps_numbers
