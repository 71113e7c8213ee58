-- The relations that are still to come, where the steps of an expression are read from the last to
-- the first: of each, the next first, whether it is of the sort that is looked for.
use Rattle.std.specs.Prelude.{List, [], ◌∷◌, Bool, false}

abbrev pub without_next : List Bool → List Bool
without_next [] = []
without_next (b ∷ bs) = bs

abbrev pub next_twice : List Bool → List Bool
next_twice [] = []
next_twice (b ∷ bs) = b ∷ b ∷ bs

abbrev pub next_inside : List Bool → List Bool
next_inside [] = []
next_inside (b ∷ bs) = false ∷ bs
