use Rattle.report_answers.proofs.PageTexts.{page_is_well_formed}
use Rattle.report_answers.proofs.laws.pages_are_well_formed.Goals as goal

pub returns : goal.returns
returns c = page_is_well_formed
