-- Counts of what a condition adds.
use Rattle.std.specs.Prelude.{ℕ, Bool, true, false}

abbrev pub one_where : Bool → ℕ
one_where true = 1
one_where false = 0
