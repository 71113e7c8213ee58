use Rattle.std.proofs.Common.{inl, inr, ap}
use Rattle.plain_machine.specs.Values.{value_as}
use Rattle.plain_events.specs.Events.{action_as}
use Rattle.plain_names.proofs.Relating.{accesses_as}
use Rattle.plain_names.proofs.related.are_accesses_of_one.Goals as goal

pub returns-in-Loads : goal.returns-in-Loads
returns-in-Loads c =
    accesses_as c.is_access_of.result c.in-Loads.location.now (value_as c.in-Loads.field-1)
    (action_as c.args.first.now) (action_as c.args.second.now) (inl (ap action_as c.in-Loads.is))
    c.is_access_of.ensures

pub returns-in-Stores : goal.returns-in-Stores
returns-in-Stores c =
    accesses_as c.is_access_of-in-Stores.result c.in-Stores.location.now (value_as c.in-Stores.field-1)
    (action_as c.args.first.now) (action_as c.args.second.now) (inr (ap action_as c.in-Stores.is))
    c.is_access_of-in-Stores.ensures
