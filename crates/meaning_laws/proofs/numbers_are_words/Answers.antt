use Rattle.meaning_laws.proofs.Ending.{all_words}
use Rattle.meaning_laws.proofs.numbers_are_words.Goals as goal

pub returns : goal.returns
returns c = λ t of x is p v e. all_words t of x is p v e
