use Rattle.std.proofs.Common.{◌≡◌, [], length, map, drop}
use Rattle.bench_slots.specs.Tables.{space_slots}
use Rattle.bench_edits.specs.Readings.{readings_of}
use Rattle.bench_edits.proofs.slots.space_slots.Given as goal

abbrev pub invariant-loop-row : goal.invariant-loop-row
invariant-loop-row l =
    (l.slots.items ≡ [])
    × (space_slots (readings_of (drop (length l.yielded) l.rows)
    (map (λ m. m.now) (drop (length l.yielded) l.models)))
    ≡ space_slots (readings_of l.rows (map (λ m. m.now) l.models)))
