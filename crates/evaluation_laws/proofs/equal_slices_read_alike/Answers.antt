use Rattle.evaluation_laws.proofs.Slices.{read_alike}
use Rattle.evaluation_laws.proofs.equal_slices_read_alike.Goals as goal

pub returns : goal.returns
returns c = read_alike
