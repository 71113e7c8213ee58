-- The parts of a test that its space reads.
use Rattle.std.specs.Prelude.{ℕ, ◌≡◌, ◌↔◌, ◌⊎◌, List, map, Contains}
use Rattle.std.specs.List.{flat_map}
use Rattle.text_values.specs.declared.test.InitEntry.{InitEntry}
use Rattle.text_values.specs.declared.test.Step.{Step}
use Rattle.text_values.specs.declared.test.Test.{Test}
use Rattle.text_values.specs.declared.test.Thread.{Thread}
use Rattle.text_values.specs.TestValue.{thread_steps}
use Rattle.ppc_lowering.specs.declared.fault.EvalRefusal.{EvalRefusal}
use Rattle.ppc_lowering.specs.Lowering.{entry_names, test_names}
use Rattle.candidate_spaces.specs.declared.candidate.Space.{Space}
use Rattle.candidates.specs.Listed.{ListsExecutions, IsSpaceRefusal}
use Rattle.bench_values.specs.Spaces.{SpaceContent, space_content}

-- the initial values, the threads, and the names of locations
pub record SpacePartsContent : Type 0 where
  pub init : List InitEntry
  pub threads : List (List Step)
  pub locations : List (List ℕ)

abbrev pub parts_of : List InitEntry → List Thread → List (List ℕ) → SpacePartsContent
parts_of init threads locations =
    record { init = init; threads = map thread_steps threads; locations = locations }

-- the test has these parts: its locations are those of the initial values and the others
pub record HasParts (parts : SpacePartsContent) (t : Test) : Type 0 where
  pub init : t.init.items ≡ parts.init
  pub threads : map thread_steps t.threads.items ≡ parts.threads
  pub locations : (n : List ℕ)
      → Contains (test_names t) n
      ↔ (Contains (flat_map entry_names parts.init) n ⊎ Contains parts.locations n)

-- the space of the parts, or why they have none: that of a test that has them
pub record IsPartSpace (parts : SpacePartsContent) (s : SpaceContent) : Type 0 where
  pub test : Test
  pub has_parts : HasParts parts test
  pub space : Space
  pub lists : ListsExecutions test space
  pub content : s ≡ space_content space

pub record IsPartRefusal (parts : SpacePartsContent) (r : EvalRefusal) : Type 0 where
  pub test : Test
  pub has_parts : HasParts parts test
  pub of_test : IsSpaceRefusal test r
