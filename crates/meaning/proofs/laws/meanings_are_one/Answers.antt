use Rattle.meaning.proofs.Meanings.{meanings_are_one}
use Rattle.meaning.proofs.laws.meanings_are_one.Goals as goal

pub returns : goal.returns
returns c = λ t items o p first second. meanings_are_one t items o p first second
