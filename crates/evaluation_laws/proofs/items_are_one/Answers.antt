use Rattle.evaluation_laws.proofs.Resolving.{one_resolution}
use Rattle.evaluation_laws.proofs.items_are_one.Goals as goal

pub returns : goal.returns
returns c = one_resolution c.args.model.now
