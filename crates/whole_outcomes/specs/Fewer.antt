-- Executions without some that a check refuses. Read next: FewerLaws.
use Rattle.std.specs.Prelude.{ℕ, ◌≡◌, Bool, false, List, map}
use Rattle.std.specs.List.{AllZip}
use Rattle.candidate_spaces.specs.Space.{Shown}
use Rattle.whole_outcomes.specs.Sublists.{LeavesOut}
use Rattle.outcome_states.specs.Kept.{Flag, holds_at, is_kept}

-- checks say the same at an index among all executions as at one among the fewer
abbrev pub AgreeAt : List (List Bool) → List (List Bool) → ℕ → ℕ → Type 0
AgreeAt checks less i j = AllZip (λ a b. holds_at i a ≡ holds_at j b) checks less

-- and flags
abbrev pub FlagsAgreeAt : List Flag → List Flag → ℕ → ℕ → Type 0
FlagsAgreeAt flags lower i j = AllZip (λ f g. holds_at i f.1 ≡ holds_at j g.1) flags lower

abbrev pub flag_names : List Flag → List (List ℕ)
flag_names flags = map (λ f. f.0) flags

-- The executions are all without some that a check refuses. Of those that stay the checks and flags
-- say the same.
pub record AreFewer (checks less : List (List Bool)) (flags lower : List Flag)
    (all fewer : List Shown) : Type 0 where
  pub names : flag_names flags ≡ flag_names lower
  pub stay : LeavesOut
      (λ i x j y. (x ≡ y) × AgreeAt checks less i j × FlagsAgreeAt flags lower i j)
      (λ i x. is_kept checks i ≡ false) 0 all 0 fewer
