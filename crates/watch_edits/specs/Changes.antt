-- Read this first: what changes of items make of a model, and which changes leave alone what both
-- versions have in common.
use Rattle.std.specs.Prelude.{◌≡◌, ℕ, suc, ◌+◌, ◌-◌, ◌<◌, ◌≤◌, List, [], ◌∷◌, ◌++◌, length, take, drop}
use Rattle.text_values.specs.ModelValue.{Clause}
use Rattle.watch_edits.specs.declared.items.ItemChange.{ItemChange}
use Rattle.watch_edits.specs.declared.items.ItemChange.TheVariants.{Set, Insert, Remove}

-- the element at that index as a list, which is empty behind the end
abbrev pub element_at : {A : Type 0} → ℕ → List A → List A
element_at i xs = take 1 (drop i xs)

-- the list with the element that the new version has at that index
abbrev pub set_at : {A : Type 0} → List A → ℕ → List A → List A
set_at new i xs = take i xs ++ (element_at i new ++ drop (suc i) xs)

-- what a change makes of items, where these are the items of the new version
abbrev pub with_change : List Clause → ItemChange → List Clause → List Clause
with_change new (Set i) xs = set_at new i xs
with_change new (Insert i) xs = take i xs ++ (element_at i new ++ drop i xs)
with_change new (Remove i) xs = take i xs ++ drop (suc i) xs

-- one change after another
abbrev pub with_changes : List Clause → List ItemChange → List Clause → List Clause
with_changes new [] xs = xs
with_changes new (c ∷ cs) xs = with_changes new cs (with_change new c xs)

-- both versions end in so many items that are the same
pub record IsCommonEnd (old new : List Clause) (count : ℕ) : Type 0 where
  pub old_length : count ≤ length old
  pub new_length : count ≤ length new
  pub same : drop (length old - count) old ≡ drop (length new - count) new

-- the change stays before the last items, so many of them, where the versions have these lengths
abbrev pub IsBeforeEnd : (old_length new_length count : ℕ) → ItemChange → Type 0
IsBeforeEnd m n s (Set i) = (i + s < m) × (i + s < n)
IsBeforeEnd m n s (Insert i) = i + s < n
IsBeforeEnd m n s (Remove i) = i + s < m

-- an item is set only where the two versions differ
abbrev pub IsNeededChange : (old new : List Clause) → ItemChange → Type 0
IsNeededChange old new (Set i) = element_at i old ≡ element_at i new → ⊥
IsNeededChange old new (Insert i) = length old < length new
IsNeededChange old new (Remove i) = length new < length old
