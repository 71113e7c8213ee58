-- When names are the same.
use Rattle.std.specs.Prelude.{ℕ, Bool, List, nat_eq}
use lib.Pointwise.{pointwise}

-- whether the second name is the first
abbrev pub is_name : List ℕ → List ℕ → Bool
is_name m n = pointwise nat_eq m n
