-- Lists of lists, and the members of a list of which a fact holds.
use Rattle.std.specs.Prelude.{ℕ, zero, suc, List, [], ◌∷◌, ◌++◌, map, take, drop, Vec}
use Rattle.std.specs.List.{flat_map}
use Rattle.std.specs.declared.alloc.Global.{Global}

-- the lists in vectors
abbrev pub lists_of : List (Vec ℕ Global) → List (List ℕ)
lists_of vs = map (λ v. v.items) vs

-- so many lists of a width, which stand one after another in one
abbrev pub rows_in : ℕ → ℕ → List ℕ → List (List ℕ)
rows_in width zero xs = []
rows_in width (suc count) xs = take width xs ∷ rows_in width count (drop width xs)

-- the tuples that begin so and take one choice of each further list, in lexicographic order
abbrev pub tuples : List ℕ → List (List ℕ) → List (List ℕ)
tuples prefix [] = prefix ∷ []
tuples prefix (c ∷ cs) = flat_map (λ x. tuples (prefix ++ x ∷ []) cs) c

-- the second list has those members of the first of which the fact holds, in order
pub data IsFiltered {X : Type 0} (P : X → Type 0) : List X → List X → Type 0 where
  none : IsFiltered P [] []
  kept : {x : X} {xs ys : List X} → P x → IsFiltered P xs ys → IsFiltered P (x ∷ xs) (x ∷ ys)
  left : {x : X} {xs ys : List X} → (P x → ⊥) → IsFiltered P xs ys → IsFiltered P (x ∷ xs) ys

-- the prefix with each of the others behind it
abbrev pub each_behind : List (List ℕ) → List ℕ → List (List ℕ)
each_behind others prefix = map (λ other. prefix ++ other) others
