use Rattle.bench_laws.proofs.Unreached.{unreached_needs_no_job}
use Rattle.bench_laws.proofs.laws.unreached_edits_need_no_job.Goals as goal

pub returns : goal.returns
returns c = unreached_needs_no_job
