use Rattle.bench_edits.proofs.Untouched.{left_untouched}
use Rattle.bench_edits.proofs.bench_laws.left_cells_are_untouched.Goals as goal

pub returns : goal.returns
returns c = left_untouched
