use Rattle.std.proofs.Common.{List, Vec, map, ap, subst, ◌∙◌}
use Rattle.std.specs.declared.alloc.Global.{Global}
use Rattle.std.proofs.lemmas.List.{map-append}
use Rattle.meaning.specs.Sets.{IsListOf}
use Rattle.plain_runs.specs.Runs.{run_as}
use Rattle.plain_events.specs.declared.event.Event as events
use Rattle.plain_events.specs.Events.{event_as}
use Rattle.plain_executions.specs.declared.execution.Execution as code
use Rattle.plain_executions.specs.Executions.{order_lists_as, execution_as, IsExecutionWith}
use Rattle.plain_executions.proofs.Executing.{over_step, over_end, with_listed, one_reads}
use Rattle.plain_executions.proofs.execution.executions_from.Goals as goal

pub loop-reads_from-preserved : goal.loop-reads_from-preserved
loop-reads_from-preserved c =
    let runs = map run_as c.args.runs.now in
    let orders = order_lists_as c.args.orders.now in
    over_step (IsExecutionWith runs orders) (λ (v : Vec events.Event Global). map event_as v.items)
    (one_reads runs orders) c.args.all.now c.loop-reads_from.reads_from-index c.reads_from-item.result
    (map execution_as c.loop-reads_from.executions.items) (map execution_as c.in_ok-more.more.items)
    (map execution_as c.append.new.self.items) c.loop-reads_from-test.true c.requires.once
    c.loop-reads_from.invariant
    (subst
    (λ (l : List events.Event). IsListOf (IsExecutionWith runs orders (map event_as l)) (map execution_as c.in_ok-more.more.items))
    (c.deref.ensures.value ∙ ap (λ (v : Vec events.Event Global). v.items) c.reads_from-item.is)
    (with_listed runs orders (map event_as c.deref.result.now) (map execution_as c.in_ok-more.more.items)
    c.requires.orders c.in_ok-more.ensures))
    (ap (λ (l : List code.Execution). map execution_as l) c.in_ok-append.ensures.items
    ∙ map-append execution_as c.loop-reads_from.executions.items c.in_ok-more.more.items)

pub returns : goal.returns
returns c =
    let runs = map run_as c.args.runs.now in
    let orders = order_lists_as c.args.orders.now in
    over_end (IsExecutionWith runs orders) (λ (v : Vec events.Event Global). map event_as v.items)
    (one_reads runs orders) c.args.all.now c.loop-reads_from.reads_from-index
    (map execution_as c.loop-reads_from.executions.items) c.loop-reads_from-test.false
    c.loop-reads_from.invariant
