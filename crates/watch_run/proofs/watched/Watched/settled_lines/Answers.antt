use Rattle.watch_run.proofs.Counting.{more_again, more_then_same}
use Rattle.watch_run.proofs.Fronts.{on_err}
use Rattle.watch_run.proofs.watched.Watched.settled_lines.Goals as goal

pub returns-in_err-more-clause-more : goal.returns-in_err-more-clause-more
returns-in_err-more-clause-more g c =
    on_err _ _ (more_again _ _ _ _ c.loop.invariant.counted c.in_err-more.ensures.more)

pub returns-in-Err-clause-more : goal.returns-in-Err-clause-more
returns-in-Err-clause-more g c =
    more_then_same _ _ _ _ _ _ c.loop.invariant.counted c.in_ok-more.ensures.counted
    c.lines_now.ensures.same
