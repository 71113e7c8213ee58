use Rattle.order_growth.proofs.Coding.{coded_items}
use Rattle.order_growth.proofs.laws.items_are_expressions.Goals as goal

pub returns : goal.returns
returns c = coded_items c.args.model.now
