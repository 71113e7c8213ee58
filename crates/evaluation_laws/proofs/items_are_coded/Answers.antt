use Rattle.order_growth.proofs.Coding.{coded_items}
use Rattle.evaluation_laws.proofs.items_are_coded.Goals as goal

pub returns : goal.returns
returns c = coded_items c.args.model.now
