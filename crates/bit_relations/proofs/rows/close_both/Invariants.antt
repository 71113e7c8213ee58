use Rattle.bit_rows.specs.Pairs.{PlusBelow}
use Rattle.std.proofs.Common.{ℕ, ◌↔◌}
use Rattle.bit_rows.specs.Relation.{AreRelColumns, wide}
use Rattle.bit_rows.specs.Rows.{RowsHave}
use Rattle.bit_relations.proofs.rows.close_both.Given as goal

abbrev pub invariant-loop-middle : goal.invariant-loop-middle
invariant-loop-middle l =
    AreRelColumns l.count l.low l.high
    × ((a b : ℕ)
    → RowsHave (wide l.low l.high) a b
    ↔ PlusBelow (RowsHave (wide l.initial.low l.initial.high)) l.middle a b)
