use Rattle.meaning.proofs.Words.{words_are_right}
use Rattle.meaning.proofs.laws.words_are_right.Goals as goal

pub returns : goal.returns
returns c = λ t items e evaluates. words_are_right t items e evaluates.2
