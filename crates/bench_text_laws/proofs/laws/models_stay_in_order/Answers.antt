use Rattle.bench_text_laws.proofs.Order.{models_in_order}
use Rattle.bench_text_laws.proofs.laws.models_stay_in_order.Goals as goal

pub returns : goal.returns
returns c = models_in_order
