use Rattle.bench_edits.proofs.SliceCells.{same_cells}
use Rattle.bench_edits.proofs.bench_laws.equal_slices_have_same_cells.Goals as goal

pub returns : goal.returns
returns c = same_cells
