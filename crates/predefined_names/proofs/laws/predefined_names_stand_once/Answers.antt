use Rattle.predefined_names.proofs.Table.{stands, stand_once}
use Rattle.predefined_names.proofs.laws.predefined_names_stand_once.Goals as goal

pub returns : goal.returns
returns c = (stands, stand_once)
