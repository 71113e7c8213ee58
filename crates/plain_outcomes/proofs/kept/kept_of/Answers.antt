use Rattle.std.proofs.Common.{map, ap, sym, subst}
use Rattle.text_values.specs.ModelValues.{clauses_of}
use Rattle.text_values.specs.TestValue.{content_of}
use Rattle.plain_executions.specs.declared.execution.Execution.{Execution}
use Rattle.plain_executions.specs.Executions.{execution_as}
use Rattle.plain_runs.proofs.Mapping.{there_at}
use Rattle.plain_outcomes.specs.Kept.{AddsIfKept}
use Rattle.plain_outcomes.proofs.Keeping.{kept_begin, kept_further, kept_whole}
use Rattle.plain_outcomes.proofs.kept.kept_of.Goals as goal

pub loop-execution-init : goal.loop-execution-init
loop-execution-init c =
    kept_begin (content_of c.args.test.now) (clauses_of c.args.items.now)
    (map execution_as c.args.executions.now) (record { ends = c.new.result; raised = c.new-2.result })
    c.new.ensures.items c.new-2.ensures.items

pub put_kept-requires-clause-execution : goal.put_kept-requires-clause-execution
put_kept-requires-clause-execution c =
    (c.requires.executions.exact (execution_as c.execution-item.result)).0
    (there_at execution_as c.args.executions.now c.loop-execution.execution-index c.execution-item.result
    (execution_as c.execution-item.result) c.loop-execution-test.true (ap execution_as (sym c.execution-item.is)))

pub loop-execution-preserved : goal.loop-execution-preserved
loop-execution-preserved c =
    let t = content_of c.args.test.now in
    let items = clauses_of c.args.items.now in
    kept_further t items execution_as c.args.executions.now c.loop-execution.execution-index
    c.execution-item.result c.loop-execution-test.true c.requires.executions.once c.loop-execution.kept
    c.put_kept.new.kept c.loop-execution.invariant
    (subst (λ (x : Execution). AddsIfKept t items (execution_as x) c.loop-execution.kept c.put_kept.new.kept) c.execution-item.is c.in_ok-put_kept.ensures)

pub returns : goal.returns
returns c =
    kept_whole (content_of c.args.test.now) (clauses_of c.args.items.now) execution_as
    c.args.executions.now c.loop-execution.execution-index c.loop-execution.kept c.loop-execution-test.false
    c.requires.executions c.loop-execution.invariant
