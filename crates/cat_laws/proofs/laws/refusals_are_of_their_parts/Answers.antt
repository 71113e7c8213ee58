use Rattle.cat_laws.proofs.Behind.{path_behind, equals_behind}
use Rattle.cat_laws.proofs.laws.refusals_are_of_their_parts.Goals as goal

pub returns : goal.returns
returns c = record { path = path_behind; equals = equals_behind }
