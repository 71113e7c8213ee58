use Rattle.std.proofs.Common.{◌≡◌, ◌++◌, [], drop, map}
use Rattle.bench_nodes.specs.Places.{user_lists, slot_names}
use Rattle.bench_nodes.proofs.places.no_lists.Given as goal

abbrev pub invariant-loop : goal.invariant-loop
invariant-loop l =
    map slot_names l.lists.items ++ user_lists [] (drop l.index l.slots) ≡ user_lists [] l.slots
