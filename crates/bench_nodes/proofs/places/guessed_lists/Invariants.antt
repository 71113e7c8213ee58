use Rattle.std.proofs.Common.{◌≡◌, take, map}
use Rattle.bench_nodes.specs.Places.{user_lists, slot_names}
use Rattle.bench_nodes.proofs.places.guessed_lists.Given as goal

abbrev pub invariant-loop-slot : goal.invariant-loop-slot
invariant-loop-slot l = map slot_names l.lists.items ≡ user_lists (take l.slot-index l.slots) l.slots
