use Rattle.std.proofs.Common.{ℕ, take}
use Rattle.run_combinations.specs.Keys.{AreKeys, bit_of}
use Rattle.store_orders.specs.Events.{thread_events}
use Rattle.run_combinations.proofs.part.sketch_of.Given as goal

abbrev pub invariant-loop-event : goal.invariant-loop-event
invariant-loop-event l =
    (thread : ℕ)
    → AreKeys (bit_of l.values) (thread_events thread (take l.event-index l.event-items)) l.loads
    l.stores
