use Rattle.std.proofs.Common.{List, map, ap, sym, subst, ◌∙◌}
use Rattle.std.proofs.lemmas.Bool.{iff_false}
use Rattle.meaning.specs.Executions.{Execution}
use Rattle.plain_runs.specs.declared.run.Run as runs
use Rattle.plain_runs.specs.Runs.{run_as}
use Rattle.plain_executions.specs.declared.execution.Execution as code
use Rattle.plain_executions.specs.Executions.{execution_as, HasFaultedRun}
use Rattle.plain_executions.proofs.Depending.{no, yes}
use Rattle.plain_executions.proofs.Executing.{one_has, none_further, none_at_all}
use Rattle.plain_executions.proofs.execution.has_fault.Goals as goal

pub returns-then-has_faulted : goal.returns-then-has_faulted
returns-then-has_faulted c =
    yes (one_has (λ (x : Execution). HasFaultedRun x.runs) execution_as c.args.executions.now
    c.loop-execution.execution-index c.execution-item.result c.loop-execution-test.true
    (subst (λ (l : List runs.Run). HasFaultedRun (map run_as l))
    (c.deref.ensures.value ∙ ap (λ (x : code.Execution). x.runs.items) c.execution-item.is)
    (c.has_faulted.ensures.0 c.if-has_faulted.true)))

pub loop-execution-preserved : goal.loop-execution-preserved
loop-execution-preserved c =
    none_further (λ (x : Execution). HasFaultedRun x.runs) execution_as c.args.executions.now
    c.loop-execution.execution-index c.execution-item.result c.loop-execution-test.true
    (λ is. iff_false c.has_faulted.ensures c.if-has_faulted.false
    (subst (λ (l : List runs.Run). HasFaultedRun (map run_as l))
    (sym (c.deref.ensures.value ∙ ap (λ (x : code.Execution). x.runs.items) c.execution-item.is)) is))
    c.loop-execution.invariant

pub returns : goal.returns
returns c =
    no (none_at_all (λ (x : Execution). HasFaultedRun x.runs) execution_as c.args.executions.now
    c.loop-execution.execution-index c.loop-execution-test.false c.loop-execution.invariant)
