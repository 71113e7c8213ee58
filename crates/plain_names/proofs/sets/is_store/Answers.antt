use Rattle.std.proofs.Common.{refl, ap}
use Rattle.plain_machine.specs.Values.{value_as}
use Rattle.plain_events.specs.Events.{action_as}
use Rattle.plain_names.proofs.sets.is_store.Goals as goal

pub returns-in-Stores : goal.returns-in-Stores
returns-in-Stores c = (
  (λ is. (c.in-Stores.field-0.now, value_as c.in-Stores.field-1, ap action_as c.in-Stores.is)),
  λ has. refl,
)
