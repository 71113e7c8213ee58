use Rattle.bench_laws.specs.Stamps.{HasLowStamps}
use Rattle.bench_laws.proofs.Reached.{after_events, few_jobs}
use Rattle.bench_laws.proofs.laws.desk_benches_are_reached.Goals as goal

pub returns : goal.returns
returns c = record { low = after_events HasLowStamps c.stamps_are_low.ensures.low; few = few_jobs }
