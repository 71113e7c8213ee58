use Rattle.bench_laws.proofs.Locked.{needed_given, none_out_twice, jobs_taken, given_few}
use Rattle.bench_laws.proofs.laws.locked_work_is_exact.Goals as goal

pub returns : goal.returns
returns c = record {
  needed = needed_given;
  apart = none_out_twice;
  accepted = jobs_taken;
  bounded = given_few;
}
