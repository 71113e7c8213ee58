use Rattle.bench_text_laws.proofs.Orderly.{applied_orderly}
use Rattle.bench_text_laws.proofs.laws.names_and_numbers_stay_apart.Goals as goal

pub returns : goal.returns
returns c = applied_orderly
