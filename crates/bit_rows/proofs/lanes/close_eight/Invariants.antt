use Rattle.std.proofs.Common.{ℕ, ◌+◌, ◌↔◌, List}
use Rattle.bit_rows.specs.Pairs.{PlusBelow}
use Rattle.bit_rows.specs.Rows.{RowsHave, Sixteen}
use Rattle.bit_rows.proofs.lanes.close_eight.Given as goal

abbrev pub invariant-loop-k : goal.invariant-loop-k
invariant-loop-k l =
    (rows : List ℕ)
    → ((a b : ℕ) → Sixteen l.at l.fn.own l.fn.other a b ↔ PlusBelow (RowsHave rows) l.at a b)
    → (a b : ℕ) → Sixteen l.at l.these l.those a b ↔ PlusBelow (RowsHave rows) (l.at + l.k) a b
