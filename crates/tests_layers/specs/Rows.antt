-- Rows of numbers by name, with the number of the edit that last changed each.
use Rattle.std.specs.Prelude.{ℕ, ◌==◌, List, [], ◌∷◌, Option, Some, None, if◌then◌else◌}
use Rattle.tests_layers.specs.declared.benches.rows.Row.{Row}

-- the stamp and value of a row, if it is there
abbrev pub row_of : ℕ → List Row → Option (ℕ × ℕ)
row_of t [] = None
row_of t (r ∷ rs) = if t == r.name then Some (r.stamp, r.value) else row_of t rs

abbrev pub IsHere : Option (ℕ × ℕ) → Type 0
IsHere None = ⊥
IsHere (Some r) = Unit {0}

-- a row that is set to its present value keeps its stamp, any other gets the number
abbrev pub put_row : ℕ → ℕ → ℕ → List Row → List Row
put_row t v number [] = record { name = t; stamp = number; value = v } ∷ []
put_row t v number (r ∷ rs) =
    if t == r.name then record {
      name = t;
      stamp = (if v == r.value then r.stamp else number);
      value = v;
    } ∷ rs
    else r ∷ put_row t v number rs

abbrev pub without_row : ℕ → List Row → List Row
without_row t [] = []
without_row t (r ∷ rs) = if t == r.name then without_row t rs else r ∷ without_row t rs
