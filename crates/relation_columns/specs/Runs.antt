-- Columns of values, as runs. Read first: the model of `RunColumn` and of `SetRuns` is `expand`.
use Rattle.std.specs.Prelude.{ℕ, zero, suc, ◌≡◌, ◌<◌, ◌-◌, List, [], ◌∷◌, ◌++◌, length, replicate, slice_index_or}
use Rattle.bit_rows.specs.Relation.{Relation, Events, no_slot}

-- each value as often as its run is long: a run begins where the one before it ends, and the first
-- at `at`
abbrev pub expand : {A : Type 0} → ℕ → List ℕ → List A → List A
expand at [] vs = []
expand at (e ∷ es) [] = []
expand at (e ∷ es) (v ∷ vs) = replicate (e - at) v ++ expand e es vs

-- each end lies above the one before it
abbrev pub AreEndsRising : ℕ → List ℕ → Type 0
AreEndsRising at [] = Unit {0}
AreEndsRising at (e ∷ es) = (at < e) × AreEndsRising e es

-- where the last run ends
abbrev pub last_end : ℕ → List ℕ → ℕ
last_end at [] = at
last_end at (e ∷ es) = last_end e es

-- where a run begins
abbrev pub run_start : ℕ → List ℕ → ℕ → ℕ
run_start at es zero = at
run_start at [] (suc r) = at
run_start at (e ∷ es) (suc r) = run_start e es r

-- an end for each value, and no run is empty
pub record AreColumnRuns {A : Type 0} (es : List ℕ) (vs : List A) : Type 0 where
  pub as_many : length es ≡ length vs
  pub rising : AreEndsRising 0 es

abbrev pub no_set : Events
no_set = record { count = 0; word = 0 }

-- the relation, and the set, of a candidate
abbrev pub rel_at : List Relation → ℕ → Relation
rel_at values k = slice_index_or values k no_slot

abbrev pub set_at : List Events → ℕ → Events
set_at values k = slice_index_or values k no_set
