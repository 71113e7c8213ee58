use Rattle.bench_text_laws.proofs.Order.{applied_go_on}
use Rattle.bench_text_laws.proofs.laws.items_stay_in_order.Goals as goal

pub returns : goal.returns
returns c = applied_go_on
