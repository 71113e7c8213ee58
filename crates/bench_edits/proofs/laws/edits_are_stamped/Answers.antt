use Rattle.bench_edits.proofs.Stamped.{edits_stamped}
use Rattle.bench_edits.proofs.laws.edits_are_stamped.Goals as goal

pub returns : goal.returns
returns c = edits_stamped
