use Rattle.shape_laws.proofs.Models.{read_by_kind}
use Rattle.shape_laws.proofs.items_are_read_by_kind.Goals as goal

pub returns : goal.returns
returns c = read_by_kind c.args.model.now
