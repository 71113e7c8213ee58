use Rattle.meaning_states.proofs.Carrying.{met_by_name}
use Rattle.meaning_states.proofs.candidates_are_met_by_name.Goals as goal

pub returns : goal.returns
returns c = λ t y one named items. met_by_name t y one named items
