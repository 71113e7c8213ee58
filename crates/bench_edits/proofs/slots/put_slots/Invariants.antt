use Rattle.std.proofs.Common.{◌≡◌, ◌++◌, map}
use Rattle.bench_slots.specs.Slots.{plain}
use Rattle.bench_edits.proofs.slots.put_slots.Given as goal

abbrev pub invariant-loop-slot : goal.invariant-loop-slot
invariant-loop-slot l =
    map plain l.slots.items ≡ map plain l.initial.slots.items ++ map plain l.yielded
