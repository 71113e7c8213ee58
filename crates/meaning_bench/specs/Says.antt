-- What the texts of a bench say of a test under a model. Read before it: `Evaluates` of
-- `meaning/specs`, and `BenchTexts` of `bench_texts/specs`. Read next: Shown.
use Rattle.std.specs.Prelude.{◌≡◌, ◌⊎◌, ℕ, List, Some, None, map}
use Rattle.text_values.specs.TestValue.{Content}
use Rattle.outcome_states.specs.declared.answer.Outcome.{Outcome}
use Rattle.outcome_texts.specs.Cells.{Cell, NoCell, Open, Settled}
use Rattle.bench_texts.specs.BenchTexts.{BenchTexts, PlainModel}
use Rattle.session_answers.specs.Cells.{test_named, model_named}
use Rattle.meaning.specs.Names.{locations}
use Rattle.meaning.specs.Evaluates.{Evaluates}
use Rattle.meaning_outcomes.specs.Outcomes.{outcome_by_name}

-- The test says this outcome under the model, with names in place of numbers.
abbrev pub SaysUnder : Content → PlainModel → Outcome → Type 0
SaysUnder test model o =
    Evaluates test (map (λ i. i.clause) model.items) (outcome_by_name (locations test) o.result)

-- The texts have a test and a model of these names, and the test says this under the model.
pub record SaysIn (t : BenchTexts) (test model : List ℕ) (o : Outcome) : Type 0 where
  pub content : Content
  pub under : PlainModel
  pub test_is : test_named t test ≡ Some content
  pub model_is : model_named t model ≡ Some under
  pub says : SaysUnder content under o

-- They have both.
pub record HasTestAndModel (t : BenchTexts) (test model : List ℕ) : Type 0 where
  pub content : Content
  pub under : PlainModel
  pub test_is : test_named t test ≡ Some content
  pub model_is : model_named t model ≡ Some under

-- They lack one of the two.
abbrev pub LacksTestOrModel : BenchTexts → (test model : List ℕ) → Type 0
LacksTestOrModel t test model = (test_named t test ≡ None) ⊎ (model_named t model ≡ None)

-- What a cell shows is right by these texts: an outcome is what the test says under the model, an
-- open cell has both, and there is no cell where one of the two is missing.
abbrev pub IsCellBy : BenchTexts → (test model : List ℕ) → Cell → Type 0
IsCellBy t test model (Settled o) = SaysIn t test model o
IsCellBy t test model Open = HasTestAndModel t test model
IsCellBy t test model NoCell = LacksTestOrModel t test model
