use Rattle.meaning_outcomes.proofs.Meant.{all_meant}
use Rattle.meaning_outcomes.proofs.tests_of_words_are_meant.Goals as goal

pub returns : goal.returns
returns c = λ test words model o h. all_meant test words model o h
