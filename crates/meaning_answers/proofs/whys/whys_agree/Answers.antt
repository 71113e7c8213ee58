use Rattle.meaning_answers.proofs.WhyLaws as law
use Rattle.meaning_answers.proofs.whys.whys_agree.Goals as goal

pub returns : goal.returns
returns c = λ t items f e found says. law.whys_agree t items f e found says
