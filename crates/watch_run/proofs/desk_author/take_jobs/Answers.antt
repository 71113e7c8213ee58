use Rattle.watch_run.proofs.Counting.{more_again}
use Rattle.watch_run.proofs.desk_author.take_jobs.Goals as goal

pub loop-job-preserved : goal.loop-job-preserved
loop-job-preserved g c =
    more_again _ _ _ _ c.loop-job.invariant.1
    (1, rw c.if-not-ran.false at c.in_ok-ran.ensures.counted)
