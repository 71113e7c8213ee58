use Rattle.std.proofs.Common.{inl, inr, ap}
use Rattle.plain_machine.specs.Values.{value_as}
use Rattle.plain_events.specs.Events.{action_as}
use Rattle.plain_names.proofs.Relating.{accessing_as}
use Rattle.plain_names.proofs.related.is_access_of.Goals as goal

pub returns-in-Loads : goal.returns-in-Loads
returns-in-Loads c =
    accessing_as c.is_same_name.result c.in-Loads.other.now c.args.location.now c.is_same_name.ensures
    (action_as c.args.action.now) (value_as c.in-Loads.field-1) (inl (ap action_as c.in-Loads.is))

pub returns-in-Stores : goal.returns-in-Stores
returns-in-Stores c =
    accessing_as c.is_same_name-in-Stores.result c.in-Stores.other.now c.args.location.now
    c.is_same_name-in-Stores.ensures (action_as c.args.action.now) (value_as c.in-Stores.field-1)
    (inr (ap action_as c.in-Stores.is))
