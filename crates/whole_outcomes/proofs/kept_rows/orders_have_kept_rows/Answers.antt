use Rattle.whole_outcomes.proofs.Products.{orders_kept}
use Rattle.whole_outcomes.proofs.kept_rows.orders_have_kept_rows.Goals as goal

pub returns : goal.returns
returns c = orders_kept c.args.events.now
