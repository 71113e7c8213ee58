use Rattle.session_laws.proofs.Outputs.{one_output_said}
use Rattle.session_laws.proofs.outputs_are_one.Goals as goal

pub returns : goal.returns
returns c = one_output_said
