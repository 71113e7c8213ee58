-- The locations of a test, as the code lists them. Read next: Counts.
use denote.Ref.{Bor}
use Rattle.std.specs.Prelude.{ℕ, ◌≡◌, Bool, List, [], ◌∷◌, map, bytes_eq, Option, Some, None}
use Rattle.std.specs.List.{insert}
use Rattle.meaning.specs.Names.{Name, is_name_before, with_one}

-- the names that references lead to
abbrev pub names_as : List (Bor (List ℕ)) → List Name
names_as names = map (λ n. n.now) names

-- things in order, with those of a list, each once
abbrev pub with_each : {X : Type 0} → (X → X → Bool) → (X → X → Bool) → List X → List X → List X
with_each is_same is_before [] ys = ys
with_each is_same is_before (x ∷ xs) ys =
    with_one is_same is_before x (with_each is_same is_before xs ys)

-- Among things in order a thing is to be put at the index, or nowhere, since it is there.
abbrev pub IsPlace : {X : Type 0} → (X → X → Bool) → (X → X → Bool) → X → List X → Option ℕ
    → Type 0
IsPlace is_same is_before x xs None = with_one is_same is_before x xs ≡ xs
IsPlace is_same is_before x xs (Some k) = with_one is_same is_before x xs ≡ insert xs k x

-- names in order, with those of a list, each once
abbrev pub with_all : List Name → List Name → List Name
with_all ns names = with_each bytes_eq is_name_before ns names

-- Among names in order a name is to be put there.
abbrev pub IsPosition : Name → List Name → Option ℕ → Type 0
IsPosition n ns found = IsPlace bytes_eq is_name_before n ns found
