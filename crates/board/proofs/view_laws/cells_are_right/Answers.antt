use Rattle.board.proofs.Rights.{right_cell}
use Rattle.board.proofs.view_laws.cells_are_right.Goals as goal

pub returns : goal.returns
returns c = λ ops legal test model. right_cell ops legal test model
