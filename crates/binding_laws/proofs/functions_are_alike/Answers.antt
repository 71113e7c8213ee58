use Rattle.binding_laws.proofs.Applied.{alike_functions}
use Rattle.binding_laws.proofs.functions_are_alike.Goals as goal

pub returns : goal.returns
returns c = alike_functions
