use Rattle.binding_laws.proofs.AlikeModels.{alike_in_models}
use Rattle.binding_laws.proofs.items_are_alike.Goals as goal

pub returns : goal.returns
returns c = alike_in_models c.args.model.now c.args.other.now
