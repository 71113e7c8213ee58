-- Whether pairs of events make a cycle is decided. Read it after Sets and Executions of
-- meaning/specs.
use Rattle.std.specs.Prelude.{◌⊎◌, List, Contains}
use Rattle.meaning.specs.Sets.{IsAcyclic}
use Rattle.meaning.specs.Executions.{Event}

-- The statement holds, or it does not.
abbrev pub IsDecided : Type 0 → Type 0
IsDecided P = P ⊎ (P → ⊥)

-- The relation with the pairs of a list has no cycle, or it is not so that it has none.
abbrev pub CyclesAreDecided : Type 0
CyclesAreDecided =
    (pairs : List (Event × Event)) → IsDecided (IsAcyclic (λ a b. Contains pairs (a, b)))
