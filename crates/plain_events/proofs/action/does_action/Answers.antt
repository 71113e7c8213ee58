use Rattle.std.proofs.Common.{List, map, sym, ap, ◌∙◌}
use Rattle.plain_runs.specs.declared.run.Instance.{Instance}
use Rattle.plain_runs.specs.declared.run.Run.{Run}
use Rattle.plain_runs.specs.Runs.{instance_as, run_as}
use Rattle.plain_events.proofs.Doing.{run_at, does_at}
use Rattle.plain_events.proofs.action.does_action.Goals as goal

pub returns : goal.returns
returns c t =
    does_at t (map run_as c.args.runs.now) c.args.thread c.args.index c.run_action.result
    (map instance_as c.deref.result.now)
    (run_at c.args.runs.now c.args.thread c.index-runs-thread.result c.if-thread-runs.false c.index-runs-thread.is
    ∙ ap (λ (r : Run). map instance_as r.instances.items) c.index-runs-thread.is
    ∙ ap (λ (l : List Instance). map instance_as l) (sym c.deref.ensures.value))
    c.run_action.ensures
