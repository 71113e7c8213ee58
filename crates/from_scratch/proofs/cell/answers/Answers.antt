use Rattle.std.proofs.Common.{refl}
use Rattle.from_scratch.proofs.cell.answers.Goals as goal

pub returns-clause-columns : goal.returns-clause-columns
returns-clause-columns c = c.answers_by.ensures.columns refl
