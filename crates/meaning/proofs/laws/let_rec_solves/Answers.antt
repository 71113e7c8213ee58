use Rattle.meaning.proofs.Rising.{solves}
use Rattle.meaning.proofs.laws.let_rec_solves.Goals as goal

pub returns : goal.returns
returns c = λ t x items group rise. solves t x items group rise
