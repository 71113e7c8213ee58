-- Refusals in a row.
use Rattle.std.specs.Prelude.{ℕ, suc, min, Bool, true, false, ◌==◌}

-- how many there are in a row after one more call, counted up to 16
abbrev pub count_after : Bool → ℕ → ℕ
count_after true n = min (suc n) 16
count_after false n = 0

abbrev pub are_too_many : ℕ → Bool
are_too_many n = n == 16
