use Rattle.std.proofs.Common.{map}
use Rattle.text_values.specs.TestValue.{content_of}
use Rattle.plain_runs.specs.Runs.{run_as}
use Rattle.plain_events.specs.Events.{of_runs}
use Rattle.plain_executions.specs.Executions.{event_lists_as}
use Rattle.plain_executions.proofs.Ordering.{all_once, location_listed}
use Rattle.plain_executions.proofs.order.location_orders.Goals as goal

pub orders_among-requires : goal.orders_among-requires
orders_among-requires c =
    all_once (content_of c.args.test.now) (of_runs (map run_as c.args.runs.now)) c.args.location.now
    c.in_ok-stores.stores.items c.deref.result.now c.in_ok-lists.lists.items c.deref-2.result.now
    c.in_ok-all.all.items c.deref-3.result.now c.in_ok-stores.ensures c.deref.ensures.value
    c.in_ok-lists.ensures c.deref-2.ensures.value c.in_ok-all.ensures c.deref-3.ensures.value

pub returns : goal.returns
returns c =
    location_listed (content_of c.args.test.now) (of_runs (map run_as c.args.runs.now)) c.args.location.now
    c.in_ok-stores.stores.items c.deref.result.now c.in_ok-lists.lists.items c.deref-2.result.now
    c.in_ok-all.all.items c.deref-3.result.now c.in_ok-stores.ensures c.deref.ensures.value
    c.in_ok-lists.ensures c.deref-2.ensures.value c.in_ok-all.ensures c.deref-3.ensures.value
    (event_lists_as c.in_ok-orders.orders.items) c.in_ok-orders.ensures
