use Rattle.report_answers.proofs.Pictures.{picture_is_plain}
use Rattle.report_answers.proofs.laws.pictures_are_plain.Goals as goal

pub returns : goal.returns
returns c = picture_is_plain
