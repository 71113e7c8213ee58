-- How many candidates end in a state.
use Rattle.std.specs.Prelude.{ℕ, ◌≡◌, ◌<◌, zero, suc, ◌+◌, ◌-◌, ◌^◌, min, Bool, ◌&&◌, List, [], ◌∷◌, Vec, map, drop, unwrap_or, if◌then◌else◌}
use Rattle.std.specs.List.{All}
use Rattle.std.specs.Map.{lookup, values_of}
use Rattle.std.specs.declared.alloc.Global.{Global}
use Rattle.outcome_states.specs.Kept.{holds_at}
use Rattle.outcome_states.specs.Order.{is_state}
use Rattle.outcome_states.specs.declared.answer.CountedState.{CountedState}
use Rattle.outcome_states.specs.declared.answer.FinalValue.{FinalValue}

-- how many of a list pass a test and have true at their index in another
unfoldable pub count_kept : {X : Type 0} → (X → Bool) → List Bool → List X → ℕ
count_kept test kept [] = 0
count_kept test kept (x ∷ xs) =
    (if holds_at 0 kept && test x then 1 else 0) + count_kept test (drop 1 kept) xs

-- how many of so many rows of a width have true in this column
unfoldable pub count_column : ℕ → ℕ → ℕ → List Bool → ℕ
count_column zero width column kept = 0
count_column (suc rows) width column kept =
    (if holds_at column kept then 1 else 0) + count_column rows width column (drop width kept)

-- what a list of counts has at a state
unfoldable pub tally : List (Vec FinalValue Global × ℕ) → List FinalValue → ℕ
tally entries v = unwrap_or (lookup (λ k. is_state v k.items) entries) 0

-- all counts are above 0
abbrev pub AreAbove : List (Vec FinalValue Global × ℕ) → Type 0
AreAbove entries = All (λ n. 0 < n) (values_of entries)

-- the second list has so many more than the first at one state, up to the greatest number, and none
-- that is 0 if the first has none and they are some
abbrev pub Raises : List (Vec FinalValue Global × ℕ) → List (Vec FinalValue Global × ℕ)
    → List FinalValue → ℕ → Type 0
Raises old new state more =
    (0 < more → AreAbove old → AreAbove new)
    × ((v : List FinalValue)
    → tally new v
    ≡ (if is_state v state then min (tally old v + more) (2 ^ 64 - 1) else tally old v))

-- the second list has so many more at each state than the first, up to the greatest number, and
-- none that is 0 if the first has none
unfoldable pub Counts : List (Vec FinalValue Global × ℕ) → List (Vec FinalValue Global × ℕ)
    → (List FinalValue → ℕ) → Type 0
Counts old new more =
    (AreAbove old → AreAbove new)
    × ((before : List FinalValue → ℕ)
    → ((v : List FinalValue) → tally old v ≡ min (before v) (2 ^ 64 - 1))
    → (v : List FinalValue) → tally new v ≡ min (before v + more v) (2 ^ 64 - 1))

-- states, and the entries of a map of states, each with its count
abbrev pub pairs_of : List CountedState → List (List FinalValue × ℕ)
pairs_of states = map (λ s. (s.values, s.count)) states

abbrev pub pairs_in : List (Vec FinalValue Global × ℕ) → List (List FinalValue × ℕ)
pairs_in entries = map (λ p. (p.0.items, p.1)) entries
