use Rattle.report_answers.proofs.Figures.{figure_is_plain}
use Rattle.report_answers.proofs.laws.figures_are_plain.Goals as goal

pub returns : goal.returns
returns c = figure_is_plain
