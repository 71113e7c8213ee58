use Rattle.bench_laws.proofs.Stamps.{low_after, changed_newer}
use Rattle.bench_laws.proofs.laws.stamps_are_low.Goals as goal

pub returns : goal.returns
returns c = record { low = low_after; newer = changed_newer }
