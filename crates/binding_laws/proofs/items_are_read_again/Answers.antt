use Rattle.binding_laws.proofs.Again.{items_again}
use Rattle.binding_laws.proofs.items_are_read_again.Goals as goal

pub returns : goal.returns
returns c = items_again
