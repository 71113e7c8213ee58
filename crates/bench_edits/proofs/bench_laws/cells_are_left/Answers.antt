use Rattle.bench_edits.proofs.LeftCells.{cell_left}
use Rattle.bench_edits.proofs.bench_laws.cells_are_left.Goals as goal

pub returns : goal.returns
returns c = cell_left
