use Rattle.std.proofs.Common.{◌≡◌, take}
use Rattle.store_orders.specs.Events.{initial_stores}
use Rattle.run_combinations.proofs.layout.initial_events.Given as goal

abbrev pub invariant-loop-location : goal.invariant-loop-location
invariant-loop-location l = l.events.items ≡ initial_stores 0 (take l.location l.initial')
