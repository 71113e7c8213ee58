use Rattle.std.proofs.Common.{ℕ, ◌<◌, ◌+◌, ◌↔◌}
use Rattle.bit_rows.specs.Relation.{Bit}
use Rattle.bit_rows.specs.Rows.{RowsHave}
use Rattle.bit_relations.proofs.rows.column.Given as goal

abbrev pub invariant-loop-a : goal.invariant-loop-a
invariant-loop-a l = (b : ℕ) → Bit l.column b ↔ ((b < l.a) × RowsHave l.words (b + l.at) l.k)
