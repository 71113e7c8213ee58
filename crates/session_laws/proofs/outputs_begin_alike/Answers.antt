use Rattle.session_laws.proofs.Outputs.{begins_alike}
use Rattle.session_laws.proofs.outputs_begin_alike.Goals as goal

pub returns : goal.returns
returns c = begins_alike
