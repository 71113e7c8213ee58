use Rattle.bench_parts.proofs.Histories.{histories_go_on}
use Rattle.bench_parts.proofs.item_laws.histories_go_on.Goals as goal

pub returns : goal.returns
returns c = histories_go_on
