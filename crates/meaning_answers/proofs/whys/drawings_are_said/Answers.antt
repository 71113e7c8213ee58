use Rattle.meaning_answers.proofs.Pictures as law
use Rattle.meaning_answers.proofs.DrawingsAnswered.{pictures_said}
use Rattle.meaning_answers.proofs.whys.drawings_are_said.Goals as goal

pub returns : goal.returns
returns c = record { said = law.drawings_are_said; pictures = pictures_said }
