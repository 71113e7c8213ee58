use Rattle.std.proofs.Common.{◌≡◌, ℕ, ◌<◌, ◌+◌}
use Rattle.bit_rows.specs.Rows.{RowsHave}
use Rattle.bit_rows.proofs.words.is_diagonal_free.Given as goal

abbrev pub invariant-loop-a : goal.invariant-loop-a
invariant-loop-a l = (x : ℕ) → x < l.a → (b : ℕ) → b < 64 → x ≡ b + l.at → RowsHave l.words x b → ⊥
