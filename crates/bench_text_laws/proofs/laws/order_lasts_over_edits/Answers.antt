use Rattle.bench_text_laws.proofs.Order.{go_on_same, go_on_further}
use Rattle.bench_text_laws.proofs.laws.order_lasts_over_edits.Goals as goal

pub returns : goal.returns
returns c = record { without_edits = go_on_same; over_both = go_on_further }
