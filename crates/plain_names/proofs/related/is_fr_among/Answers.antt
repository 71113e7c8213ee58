use Rattle.std.proofs.lemmas.Bool.{iff_false}
use Rattle.plain_events.specs.Events.{event_as}
use Rattle.plain_executions.specs.Executions.{execution_as}
use Rattle.plain_executions.proofs.Depending.{no, yes}
use Rattle.plain_executions.proofs.Executing.{one_has, none_further, none_at_all}
use Rattle.plain_names.specs.Related.{IsReadBefore}
use Rattle.plain_names.proofs.related.is_fr_among.Goals as goal

pub returns-then-is : goal.returns-then-is
returns-then-is c =
    let P = IsReadBefore (execution_as c.args.execution.now) (event_as c.args.first.now) (event_as c.args.second.now) in
    yes (one_has P event_as c.args.stores.now c.loop-store.store-index _ c.loop-store-test.true
    (c.is_rf-reads.ensures.0 (c.both-is.ensures.0 c.if-is.true).0, c.is_co-later.ensures.0 (c.both-is.ensures.0 c.if-is.true).1))

pub loop-store-preserved : goal.loop-store-preserved
loop-store-preserved c =
    let P = IsReadBefore (execution_as c.args.execution.now) (event_as c.args.first.now) (event_as c.args.second.now) in
    none_further P event_as c.args.stores.now c.loop-store.store-index _ c.loop-store-test.true
    (λ is. iff_false c.both-is.ensures c.if-is.false (c.is_rf-reads.ensures.1 is.0, c.is_co-later.ensures.1 is.1))
    c.loop-store.invariant

pub returns : goal.returns
returns c =
    let P = IsReadBefore (execution_as c.args.execution.now) (event_as c.args.first.now) (event_as c.args.second.now) in
    no (none_at_all P event_as c.args.stores.now c.loop-store.store-index c.loop-store-test.false c.loop-store.invariant)
