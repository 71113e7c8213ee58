use Rattle.meanings_exist.proofs.Outcomes.{says_something}
use Rattle.meanings_exist.proofs.a_meaning_exists.Goals as goal

pub returns : goal.returns
returns c = λ t of items. says_something t of items
