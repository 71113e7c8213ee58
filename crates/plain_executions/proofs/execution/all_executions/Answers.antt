use Rattle.std.proofs.Common.{List, Vec, map, ap, subst, ◌∙◌}
use Rattle.std.specs.declared.alloc.Global.{Global}
use Rattle.std.proofs.lemmas.List.{map-append}
use Rattle.text_values.specs.TestValue.{content_of}
use Rattle.meaning.specs.Sets.{IsListOf}
use Rattle.plain_runs.specs.declared.run.Run as runs
use Rattle.plain_runs.specs.Runs.{run_as}
use Rattle.plain_events.specs.Combinations.{run_lists_as}
use Rattle.plain_executions.specs.declared.execution.Execution as code
use Rattle.plain_executions.specs.Executions.{execution_as, IsExecutionOf}
use Rattle.plain_executions.proofs.Executing.{over_step, over_end, one_runs, all_listed}
use Rattle.plain_executions.proofs.execution.all_executions.Goals as goal

pub loop-runs-preserved : goal.loop-runs-preserved
loop-runs-preserved c =
    let t = content_of c.args.test.now in
    over_step (IsExecutionOf t) (λ (v : Vec runs.Run Global). map run_as v.items) (one_runs t)
    c.args.combinations.now c.loop-runs.runs-index c.runs-item.result
    (map execution_as c.loop-runs.executions.items) (map execution_as c.in_ok-more.more.items)
    (map execution_as c.append.new.self.items) c.loop-runs-test.true c.requires.runs.once
    c.loop-runs.invariant
    (subst
    (λ (l : List runs.Run). IsListOf (IsExecutionOf t (map run_as l)) (map execution_as c.in_ok-more.more.items))
    (c.deref.ensures.value ∙ ap (λ (v : Vec runs.Run Global). v.items) c.runs-item.is)
    c.in_ok-more.ensures)
    (ap (λ (l : List code.Execution). map execution_as l) c.in_ok-append.ensures.items
    ∙ map-append execution_as c.loop-runs.executions.items c.in_ok-more.more.items)

pub returns : goal.returns
returns c =
    let t = content_of c.args.test.now in
    all_listed t (run_lists_as c.args.combinations.now) (map execution_as c.loop-runs.executions.items)
    c.requires.runs
    (over_end (IsExecutionOf t) (λ (v : Vec runs.Run Global). map run_as v.items) (one_runs t)
    c.args.combinations.now c.loop-runs.runs-index (map execution_as c.loop-runs.executions.items)
    c.loop-runs-test.false c.loop-runs.invariant)
