-- LAWS of what nodes give: what `laws` states.
use Rattle.std.specs.Prelude.{◌≡◌, length, List}
use Rattle.text_values.specs.declared.test.Test.{Test}
use Rattle.candidate_spaces.specs.declared.candidate.Space.{Space}
use Rattle.ppc_lowering.specs.declared.fault.EvalRefusal.{EvalRefusal}
use Rattle.candidates.specs.Listed.{ListsExecutions, IsSpaceRefusal}
use Rattle.bench_values.specs.Givens.{VerdictPartsContent, GivenContent, ForVerdict}
use Rattle.bench_values.specs.Makes.{Makes, output_names}
use Rattle.bench_values.specs.Parts.{SpacePartsContent, HasParts, IsPartSpace, IsPartRefusal}
use Rattle.bench_values.specs.Spaces.{SpaceContent, space_content}
use Rattle.bench_values.specs.Values.{NodeContent}

-- some parts have one space
abbrev pub HasOneSpace : SpacePartsContent → Type 0
HasOneSpace parts = (s r : SpaceContent) → IsPartSpace parts s → IsPartSpace parts r → s ≡ r

-- a space of a test, which shows this
pub record IsSpaceOf (t : Test) (s : SpaceContent) : Type 0 where
  pub space : Space
  pub lists : ListsExecutions t space
  pub content : s ≡ space_content space

-- the space of some parts, or why they have none, is that of each test that has them
abbrev pub IsOfEachTest : SpacePartsContent → Test → Type 0
IsOfEachTest parts t =
    HasParts parts t
    → ((s : SpaceContent) → IsPartSpace parts s → IsSpaceOf t s)
    × ((r : EvalRefusal) → IsPartRefusal parts r → IsSpaceRefusal t r)

-- a verdict gives one outcome, from the values of its inputs
abbrev pub GivesOneOutcome : VerdictPartsContent → List NodeContent → Type 0
GivesOneOutcome parts values =
    (a b : List NodeContent) → Makes (ForVerdict parts) values a → Makes (ForVerdict parts) values b
    → a ≡ b

-- a node gives a value for each number by which its outputs go, whatever the values of its inputs
-- are
abbrev pub HasOutputNames : GivenContent → Type 0
HasOutputNames given =
    (values outputs : List NodeContent) → Makes given values outputs
    → length outputs ≡ length (output_names given)
