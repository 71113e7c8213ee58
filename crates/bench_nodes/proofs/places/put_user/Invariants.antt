use Rattle.std.proofs.Common.{◌≡◌, take, map}
use Rattle.bench_nodes.specs.Places.{with_user, slot_name, slot_names}
use Rattle.bench_nodes.proofs.places.put_user.Given as goal

abbrev pub invariant-loop-index : goal.invariant-loop-index
invariant-loop-index l =
    map slot_names l.lists.items
    ≡ with_user (slot_name l.user) (take l.index l.user.inputs.items) l.slots
    (map slot_names l.initial.lists.items)
