use Rattle.std.proofs.Common.{◌↔◌, List, map, sym, subst, ap, ◌∙◌}
use Rattle.std.specs.Prelude.{IsTrue}
use Rattle.meaning.specs.Runs.{Instance}
use Rattle.plain_runs.specs.declared.run.Run as code
use Rattle.plain_runs.specs.declared.run.Instance as instances
use Rattle.plain_runs.specs.Runs.{instance_as}
use Rattle.plain_events.proofs.Doing.{run_at}
use Rattle.plain_executions.specs.Kinds.{dependency_of}
use Rattle.plain_executions.proofs.Depending.{At}
use Rattle.plain_executions.proofs.dependent.is_related_at.Goals as goal

pub returns : goal.returns
returns c =
    subst
    (λ (l : List Instance). IsTrue c.in_ok-found.found ↔ dependency_of c.args.kind (At l) c.args.from c.args.to)
    (ap (λ (l : List instances.Instance). map instance_as l) (c.deref.ensures.value ∙ ap (λ (r : code.Run). r.instances.items) (sym c.index-runs-thread.is))
    ∙ sym (run_at c.args.runs.now c.args.thread c.index-runs-thread.result c.if-thread-runs.false c.index-runs-thread.is))
    c.in_ok-found.ensures
