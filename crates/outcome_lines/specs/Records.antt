-- What the lines are of: read this first, then Tab and Json. A table and a difference are lists of
-- results, and their lines are those of each result, one behind the other.
use Rattle.std.specs.Prelude.{ℕ, List, [], map, slice_index_or}
use Rattle.outcome_states.specs.declared.answer.Outcome.{Outcome}
use Rattle.outcome_texts.specs.Cells.{Cell, NoCell, Settled}
use Rattle.outcome_texts.specs.Differences.{Pair}
pub use Rattle.outcome_lines.specs.Subjects.{Subject, TextRefusal}
use Rattle.outcome_lines.specs.declared.record.ModelOutcome as given_outcome
use Rattle.outcome_lines.specs.declared.record.TestResult as given_test
use Rattle.outcome_lines.specs.declared.record.TestResult.TheVariants as given_tests

-- the outcome under the model of this name
pub record ModelOutcome : Type 0 where
  pub model : List ℕ
  pub outcome : Outcome

-- a text at a path: it was refused, or it is the test of this name, with an outcome for each model
pub data TestResult : Type 0 where
  Refused : (refusal : TextRefusal) → TestResult
  Tested : (path test : List ℕ) (outcomes : List ModelOutcome) → TestResult

abbrev pub model_outcome_of : given_outcome.ModelOutcome → ModelOutcome
model_outcome_of o = record { model = o.model.now; outcome = o.outcome.now }

abbrev pub test_of : given_test.TestResult → TestResult
test_of (given_tests.Refused refusal) = Refused refusal.now
test_of (given_tests.Tested path test outcomes) =
    Tested path.now test.now (map model_outcome_of outcomes.now)

-- the cell under the model of this index
abbrev pub cell_at : List ModelOutcome → ℕ → Cell
cell_at outcomes index = slice_index_or (map (λ o. Settled o.outcome) outcomes) index NoCell

-- the name of the model of this index
abbrev pub model_at : List ModelOutcome → ℕ → List ℕ
model_at outcomes index = slice_index_or (map (λ o. o.model) outcomes) index []

-- a test under the first two models
abbrev pub pair_in : List ℕ → List ModelOutcome → Pair
pair_in test outcomes =
    record { name = test; first = cell_at outcomes 0; second = cell_at outcomes 1 }
