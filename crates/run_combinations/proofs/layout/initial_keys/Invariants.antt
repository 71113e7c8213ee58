use Rattle.std.proofs.Common.{take}
use Rattle.run_combinations.specs.Keys.{AreKeys, bit_of}
use Rattle.run_combinations.proofs.layout.initial_keys.Given as goal

abbrev pub invariant-loop-event : goal.invariant-loop-event
invariant-loop-event l = AreKeys (bit_of l.values) (take l.event-index l.initial') l.loads l.stores
