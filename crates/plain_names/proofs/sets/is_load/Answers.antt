use Rattle.std.proofs.Common.{refl, ap}
use Rattle.plain_machine.specs.Values.{value_as}
use Rattle.plain_events.specs.Events.{action_as}
use Rattle.plain_names.proofs.sets.is_load.Goals as goal

pub returns-in-Loads : goal.returns-in-Loads
returns-in-Loads c = (
  (λ is. (c.in-Loads.field-0.now, value_as c.in-Loads.field-1, ap action_as c.in-Loads.is)),
  λ has. refl,
)
