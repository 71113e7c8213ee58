use Rattle.std.proofs.Common.{◌≡◌, ◌++◌, length, map, drop}
use Rattle.std.specs.List.{flat_map}
use Rattle.bench_slots.specs.Slots.{plain, histories_in}
use Rattle.bench_slots.specs.Tables.{slots_in, all_slots}
use Rattle.bench_edits.specs.Readings.{readings_of}
use Rattle.bench_edits.proofs.slots.all_slots.Given as goal

abbrev pub invariant-loop-row : goal.invariant-loop-row
invariant-loop-row l =
    map plain l.slots.items
    ++ flat_map (slots_in (histories_in l.histories)) (readings_of
    (drop (length l.yielded) l.rows)
    (map (λ m. m.now) (drop (length l.yielded) l.models)))
    ≡ all_slots (histories_in l.histories) (readings_of l.rows (map (λ m. m.now) l.models))
