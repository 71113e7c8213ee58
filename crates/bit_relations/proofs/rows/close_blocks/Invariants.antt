use Rattle.bit_rows.specs.Pairs.{PlusBelow}
use Rattle.std.proofs.Common.{ℕ, ◌≡◌, ◌↔◌, length}
use Rattle.bit_rows.specs.Rows.{RowsHave, AllFit}
use Rattle.bit_relations.proofs.rows.close_blocks.Given as goal

abbrev pub invariant-loop-middle : goal.invariant-loop-middle
invariant-loop-middle l =
    (length l.low ≡ 128) × AllFit l.low
    × ((a b : ℕ) → RowsHave l.low a b ↔ PlusBelow (RowsHave l.initial.low) l.middle a b)
