use Rattle.std.proofs.Common.{◌↔◌, List, map, subst}
use Rattle.std.specs.Prelude.{IfOk, IsTrue}
use Rattle.meaning.specs.Executions.{Dependency}
use Rattle.plain_runs.specs.declared.run.Run.{Run}
use Rattle.plain_runs.specs.Runs.{run_as}
use Rattle.plain_events.specs.Events.{event_as, of_runs}
use Rattle.plain_executions.specs.Kinds.{dependency_of}
use Rattle.plain_names.proofs.pairs.depends.Goals as goal

pub returns : goal.returns
returns c =
    subst
    (λ (l : List Run). IfOk c.is_dependent.result (λ b. IsTrue b ↔ Dependency (dependency_of c.args.kind) (of_runs (map run_as l)) (event_as c.args.first.now.event) (event_as c.args.second.now.event)))
    c.deref.ensures.value c.is_dependent.ensures
