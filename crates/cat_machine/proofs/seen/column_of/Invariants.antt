use Rattle.std.proofs.Common.{ℕ, ◌↔◌, drop}
use Rattle.std.specs.Prelude.{map}
use Rattle.cat_machine.specs.Seen.{EventsAmong, PairsAmong, value_at}
use Rattle.cat_machine.proofs.seen.column_of.Given as goal

abbrev pub invariant-loop-one : goal.invariant-loop-one
invariant-loop-one l =
    ((k n a : ℕ)
    → EventsAmong (map (value_at k) (drop l.one-index l.named)) l.name n a
    ↔ EventsAmong (map (value_at k) l.named) l.name n a)
    × ((k n a b : ℕ)
    → PairsAmong (map (value_at k) (drop l.one-index l.named)) l.name n a b
    ↔ PairsAmong (map (value_at k) l.named) l.name n a b)
