use Rattle.bench_edits.proofs.Wholes.{parts_whole}
use Rattle.bench_edits.proofs.laws.parts_are_whole.Goals as goal

pub returns : goal.returns
returns c = parts_whole
