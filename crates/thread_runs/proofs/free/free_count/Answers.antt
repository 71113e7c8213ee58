use Rattle.std.proofs.Common.{rules}
use Rattle.thread_runs.proofs.AllFree.{has_free_runs}
use Rattle.thread_runs.proofs.FewRuns.{few_runs}
use Rattle.thread_runs.proofs.free.free_count.Goals as goal

pub returns-clause-runs : goal.returns-clause-runs
returns-clause-runs c =
    λ first V rising e. has_free_runs c.args.lines.now first V c.args.size _ rising e (search rules)

pub returns-clause-few : goal.returns-clause-few
returns-clause-few c =
    λ first V rising within some few.
    few_runs c.args.lines.now first V c.args.size _ rising within some (search rules) few
