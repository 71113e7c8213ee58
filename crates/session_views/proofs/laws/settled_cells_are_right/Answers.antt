use Rattle.session_views.proofs.Cells.{right_cell}
use Rattle.session_views.proofs.laws.settled_cells_are_right.Goals as goal

pub returns : goal.returns
returns c =
    λ t b s i j o e content plain test model. right_cell t b s i j o e content plain test model
