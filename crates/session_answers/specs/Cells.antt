-- What the texts of a session say: a test under a model. Read this file first, then Rows, Questions
-- and Sessions.
use Rattle.std.specs.Prelude.{◌≡◌, ℕ, List, [], ◌∷◌, map, Option, Some, None, slice_get}
use Rattle.std.specs.List.{AllZip}
use Rattle.text_values.specs.declared.test.Test.{Test}
use Rattle.text_values.specs.TestValue.{Content, content_of}
use Rattle.text_values.specs.declared.model.ModelText.{ModelText}
use Rattle.text_values.specs.ModelValues.{clauses_of}
use Rattle.outcome_states.specs.declared.answer.Outcome.{Outcome}
use Rattle.from_scratch.specs.FromScratch.{IsFromScratch}
use Rattle.outcome_texts.specs.Cells.{Cell, NoCell, Open, Settled}
use Rattle.outcome_texts.specs.Columns.{Row}
use Rattle.bench_texts.specs.BenchTexts.{BenchTexts, PlainModel, test_index, model_index}

-- the test or the model of that name, if there is one
abbrev pub test_named : BenchTexts → List ℕ → Option Content
test_named t name = slice_get t.tests (test_index name t.tests)

abbrev pub model_named : BenchTexts → List ℕ → Option PlainModel
model_named t name = slice_get t.models (model_index name t.models)

abbrev pub with_first_model : Option PlainModel → Option (List PlainModel)
    → Option (List PlainModel)
with_first_model None models = None
with_first_model (Some m) None = None
with_first_model (Some m) (Some models) = Some (m ∷ models)

-- the models of these names, if all are there
abbrev pub models_named : BenchTexts → List (List ℕ) → Option (List PlainModel)
models_named t [] = Some []
models_named t (name ∷ names) = with_first_model (model_named t name) (models_named t names)

-- the outcome of evaluating the test under the model from nothing
pub record IsPlainOutcome (content : Content) (plain : PlainModel) (outcome : Outcome)
    : Type 0 where
  pub test : Test
  pub model : ModelText
  pub test_is : content_of test ≡ content
  pub model_is : clauses_of model.items.items ≡ map (λ i. i.clause) plain.items
  pub said : IsFromScratch test model outcome

abbrev pub IsPlainCell : Content → PlainModel → Cell → Type 0
IsPlainCell test model NoCell = ⊥
IsPlainCell test model Open = ⊥
IsPlainCell test model (Settled outcome) = IsPlainOutcome test model outcome

-- the row of a test under these models
pub record IsPlainRow (models : List PlainModel) (test : Content) (row : Row) : Type 0 where
  pub name : row.name ≡ test.name
  pub cells : AllZip (IsPlainCell test) models row.cells
