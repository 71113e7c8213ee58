use Rattle.std.proofs.Common.{List, Vec, map, sym, subst}
use Rattle.std.specs.declared.alloc.Global.{Global}
use Rattle.text_values.specs.TestValue.{content_of}
use Rattle.meaning.specs.Sets.{IsOnce, IsListOf}
use Rattle.plain_runs.specs.Runs.{run_as}
use Rattle.plain_events.specs.declared.event.Event as code
use Rattle.plain_executions.specs.Executions.{event_lists_as, order_lists_as, execution_as, IsReadsFromOf, IsCoherenceOf}
use Rattle.plain_executions.proofs.Executing.{of_listed}
use Rattle.plain_executions.proofs.execution.executions_of.Goals as goal

pub executions_from-requires-clause-once : goal.executions_from-requires-clause-once
executions_from-requires-clause-once c =
    subst (λ (l : List (Vec code.Event Global)). IsOnce (event_lists_as l)) (sym c.deref.ensures.value)
    c.in_ok-all.ensures.once

pub executions_from-requires-clause-orders : goal.executions_from-requires-clause-orders
executions_from-requires-clause-orders c =
    subst (λ (l : List (Vec (Vec code.Event Global) Global)). IsOnce (order_lists_as l)) (sym c.deref-2.ensures.value)
    c.in_ok-orders.ensures.once

pub returns : goal.returns
returns c =
    let t = content_of c.args.test.now in
    let runs = map run_as c.args.runs.now in
    of_listed t runs (event_lists_as c.deref.result.now) (order_lists_as c.deref-2.result.now)
    (map execution_as c.in_ok-executions.executions.items)
    (subst (λ (l : List (Vec code.Event Global)). IsListOf (IsReadsFromOf t runs) (event_lists_as l)) (sym c.deref.ensures.value) c.in_ok-all.ensures)
    (subst (λ (l : List (Vec (Vec code.Event Global) Global)). IsListOf (IsCoherenceOf t runs) (order_lists_as l)) (sym c.deref-2.ensures.value) c.in_ok-orders.ensures)
    c.in_ok-executions.ensures
