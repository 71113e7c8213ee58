use Rattle.meaning_answers.proofs.WhyLaws.{whys_said}
use Rattle.meaning_answers.proofs.Answered.{reports_said}
use Rattle.meaning_answers.proofs.whys.whys_are_said.Goals as goal

pub returns : goal.returns
returns c = record { said = whys_said; reports = reports_said }
