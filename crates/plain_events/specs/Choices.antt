-- Choices of indexes. Read next: Combinations.
use Rattle.std.specs.Prelude.{ℕ, ◌≡◌, ◌<◌, List, [], ◌∷◌, ◌++◌, slice_get, option_to_list, map, Vec, Contains}
use Rattle.std.specs.List.{AllZip}
use Rattle.std.specs.declared.alloc.Global.{Global}
use Rattle.meaning.specs.Sets.{Set}

-- the lists that the code has
abbrev pub lists_as : {X : Type 0} → List (Vec X Global) → List (List X)
lists_as vs = map (λ v. v.items) vs

-- The list has an index below each count, in their order.
abbrev pub IsIndexChoice : List ℕ → Set (List ℕ)
IsIndexChoice counts ks = AllZip (λ n k. k < n) counts ks

-- The list begins with this index, and goes on as one of these lists.
abbrev pub BeginsWith : List (List ℕ) → ℕ → Set (List ℕ)
BeginsWith rests k ks = (rest : List ℕ) × Contains rests rest × (k ∷ rest ≡ ks)

-- It begins with an index below the count, likewise.
abbrev pub BeginsBelow : ℕ → List (List ℕ) → Set (List ℕ)
BeginsBelow n rests ks = (k : ℕ) × (k < n) × BeginsWith rests k ks

-- what a choice picks from lists, one from each
abbrev pub pick : {X : Type 0} → List (List X) → List ℕ → List X
pick [] ks = []
pick (l ∷ ls) [] = []
pick (l ∷ ls) (k ∷ ks) = option_to_list (slice_get l k) ++ pick ls ks
