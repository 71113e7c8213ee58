-- Lists without some of their elements. Read next: Kept.
use Rattle.std.specs.Prelude.{ℕ, ◌+◌, List, [], ◌∷◌}

-- The second list is the first without some of its elements. Elements that stay are related with
-- their indexes, from these on, and something is known of each that is left out.
pub data LeavesOut {X Y : Type 0} (Same : ℕ → X → ℕ → Y → Type 0) (Left : ℕ → X → Type 0)
    : ℕ → List X → ℕ → List Y → Type 0 where
  nothing_left : {i j : ℕ} → LeavesOut Same Left i [] j []
  stays : {i j : ℕ} {x : X} {y : Y} {xs : List X} {ys : List Y} → Same i x j y
      → LeavesOut Same Left (i + 1) xs (j + 1) ys
      → LeavesOut Same Left i (x ∷ xs) j (y ∷ ys)
  is_left : {i j : ℕ} {x : X} {xs : List X} {ys : List Y} → Left i x
      → LeavesOut Same Left (i + 1) xs j ys
      → LeavesOut Same Left i (x ∷ xs) j ys
