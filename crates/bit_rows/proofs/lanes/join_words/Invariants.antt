use Rattle.std.proofs.Common.{ℕ, ◌≡◌, ◌<◌, ◌↔◌, length}
use Rattle.bit_rows.specs.Rows.{RowsHave, JoinedFrom}
use Rattle.bit_rows.proofs.lanes.join_words.Given as goal

abbrev pub invariant-loop-c : goal.invariant-loop-c
invariant-loop-c l =
    (length l.joined ≡ 8)
    × ((i b : ℕ) → i < 8
    → RowsHave l.joined i b
    ↔ JoinedFrom l.at l.c (RowsHave l.fn.acc) (RowsHave l.select) (RowsHave l.others) i
    b)
