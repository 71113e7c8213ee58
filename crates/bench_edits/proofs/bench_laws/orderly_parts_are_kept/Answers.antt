use Rattle.bench_edits.proofs.Kept.{parts_kept}
use Rattle.bench_edits.proofs.bench_laws.orderly_parts_are_kept.Goals as goal

pub returns : goal.returns
returns c = parts_kept
