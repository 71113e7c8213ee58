use Rattle.watch_run.specs.Counts.{HasMoreJobs}
use Rattle.watch_run.proofs.desk_author.take_jobs.Given as goal

-- jobs may have been counted
abbrev pub invariant-loop-job : goal.invariant-loop-job
invariant-loop-job g l = HasMoreJobs l.initial.counts l.counts
