use Rattle.std.proofs.Common.{◌≡◌, ◌++◌, map, drop}
use Rattle.bench_slots.specs.Slots.{plain, histories_in, used_slots}
use Rattle.bench_slots.proofs.items.put_items.Given as goal

abbrev pub invariant-loop-index : goal.invariant-loop-index
invariant-loop-index l =
    map plain l.slots.items
    ++ used_slots (histories_in l.histories) l.numbers l.items (drop l.index-index l.used)
    ≡ map plain l.initial.slots.items
    ++ used_slots (histories_in l.histories) l.numbers l.items l.used
