-- The outcomes of a test as a row of settled cells.
use Rattle.std.specs.Prelude.{◌≡◌, List, map, slice_index_or}
use denote.Ref.{Bor}
use Rattle.text_values.specs.declared.test.Test.{Test}
use Rattle.text_values.specs.declared.model.ModelText.{ModelText}
use Rattle.from_scratch.specs.Suites.{AreOutcomes}
use Rattle.outcome_texts.specs.Cells.{NoCell, Settled}
use Rattle.outcome_texts.specs.Columns.{Row}
use Rattle.outcome_texts.specs.Differences.{Pair}
use Rattle.session_answers.specs.declared.rows.TestOutcomes.{TestOutcomes}

abbrev pub row_said : TestOutcomes → Row
row_said r = record { name = r.name; cells = map Settled r.outcomes.items }

-- the first two cells of a row
abbrev pub pair_in : Row → Pair
pair_in row =
    record {
      name = row.name;
      first = slice_index_or row.cells 0 NoCell;
      second = slice_index_or row.cells 1 NoCell;
    }

-- the outcomes of the test under these models
pub record HasOutcomes (models : List (Bor ModelText)) (test : Test) (row : TestOutcomes)
    : Type 0 where
  pub name : row.name ≡ test.name
  pub outcomes : AreOutcomes models test row.outcomes.items
