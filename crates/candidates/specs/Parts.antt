-- What the candidates of a test are made of, before the orders of the stores are made: the clauses
-- of `parts` and of `SpaceParts::whole` cite it. Read `Listed` first.
use Rattle.std.specs.Prelude.{◌≡◌, map, min}
use Rattle.text_values.specs.declared.test.Test.{Test}
use Rattle.store_orders.specs.Combinations.{combination_lists, ordered}
use Rattle.candidate_spaces.specs.declared.candidate.Space.{Space}
use Rattle.candidates.specs.declared.space_parts.SpaceParts.{SpaceParts}
use Rattle.candidates.specs.Listed.{ListsExecutions}
use Rattle.candidate_spaces.specs.Space.{candidate_count}

-- the space has these combinations with all orders of their stores, of at most 128 locations
pub record IsWholeOf (p : SpaceParts) (s : Space) : Type 0 where
  pub locations : s.locations ≡ p.locations
  pub registers : s.registers ≡ p.registers
  pub combinations : map combination_lists s.combinations.items
      ≡ map (λ c. ordered (min p.location_count 128) (combination_lists c)) p.combinations.items

-- with all orders they list the executions of the test
abbrev pub AreSpaceParts : Test → SpaceParts → Type 0
AreSpaceParts t p = (s : Space) → IsWholeOf p s → ListsExecutions t s

-- with all orders there are as many candidates as they say
abbrev pub AreCounted : SpaceParts → Type 0
AreCounted p = (s : Space) → IsWholeOf p s → candidate_count s ≡ p.count
