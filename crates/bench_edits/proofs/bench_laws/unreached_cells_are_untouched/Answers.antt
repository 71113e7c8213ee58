use Rattle.bench_edits.proofs.Untouched.{unreached_untouched}
use Rattle.bench_edits.proofs.bench_laws.unreached_cells_are_untouched.Goals as goal

pub returns : goal.returns
returns c = unreached_untouched
