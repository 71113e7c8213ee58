use Rattle.std.proofs.Common.{ap}
use Rattle.plain_machine.specs.Values.{value_as}
use Rattle.plain_events.specs.declared.event.Action.{Action}
use Rattle.plain_events.specs.Events.{action_as}
use Rattle.plain_events.proofs.Doing.{store_to}
use Rattle.plain_events.proofs.node.is_store_action.Goals as goal

pub returns-in-Stores : goal.returns-in-Stores
returns-in-Stores c =
    store_to c.eq.result c.in-Stores.other.now c.args.location.now (value_as c.in-Stores.field-1)
    (action_as c.args.action.now) (ap (λ (a : Action). action_as a) c.in-Stores.is) c.eq.ensures
