use Rattle.bench_text_laws.proofs.Together.{applied_together}
use Rattle.bench_text_laws.proofs.laws.items_stay_together.Goals as goal

pub returns : goal.returns
returns c = applied_together
