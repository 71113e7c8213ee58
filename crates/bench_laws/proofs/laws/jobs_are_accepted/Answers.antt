use Rattle.bench_laws.proofs.Jobs.{jobs_accepted}
use Rattle.bench_laws.proofs.OpenClaims.{claims_stay_out}
use Rattle.bench_laws.proofs.TaskLists.{list_accepts_jobs}
use Rattle.bench_laws.specs.Live.{live_meaning, live_refusing, live_last}
use Rattle.bench_laws.proofs.laws.jobs_are_accepted.Goals as goal

pub returns : goal.returns
returns c = record {
  accepted = jobs_accepted live_meaning;
  out = claims_stay_out live_meaning;
  listed = list_accepts_jobs live_meaning live_refusing live_last (jobs_accepted live_meaning);
}
