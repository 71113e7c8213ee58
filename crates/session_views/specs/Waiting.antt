-- Cells that a question asks for and that a board shows open. Read after Shown.
use Rattle.std.specs.Prelude.{◌≡◌, ℕ, List, [], ◌∷◌, map, Option, Some, None, Contains}
use Rattle.outcome_states.specs.declared.answer.Outcome.{Outcome}
use Rattle.bench_texts.specs.BenchTexts.{BenchTexts, test_index, model_index}
use Rattle.board.specs.Contents.{BoardContent, cell_at}
use Rattle.session_edits.specs.declared.request.Question.{Question}
use Rattle.session_edits.specs.declared.request.Question.TheVariants as questions

-- no outcome is shown
abbrev pub IsUnsettled : Option (Option Outcome) → Type 0
IsUnsettled None = Unit {0}
IsUnsettled (Some None) = Unit {0}
IsUnsettled (Some (Some outcome)) = ⊥

-- the cell of the test and the model at these indexes is shown open
abbrev pub IsOpenAt : BoardContent → (test model : ℕ) → Type 0
IsOpenAt b test model = cell_at b.rows test model ≡ Some None

-- the same, where there is such a model
abbrev pub IsOpenUnder : BoardContent → (test : ℕ) → (model : Option ℕ) → Type 0
IsOpenUnder b test None = ⊥
IsOpenUnder b test (Some model) = IsOpenAt b test model

-- the cell of some test and of the model at one of these indexes is
pub record IsOpenAmong (b : BoardContent) (models : List ℕ) : Type 0 where
  pub test : ℕ
  pub model : ℕ
  pub among : Contains models model
  pub is : IsOpenAt b test model

abbrev pub model_indexes : BenchTexts → List (List ℕ) → List ℕ
model_indexes t names = map (λ name. model_index name t.models) names

-- a cell that the question asks for is shown open
abbrev pub IsAwaiting : BenchTexts → BoardContent → Question → Type 0
IsAwaiting t b (questions.Items model) = ⊥
IsAwaiting t b (questions.Show test model) =
    IsOpenAt b (test_index test t.tests) (model_index model t.models)
IsAwaiting t b (questions.Counts test model) =
    IsOpenAt b (test_index test t.tests) (model_index model t.models)
IsAwaiting t b (questions.Table names) = IsOpenAmong b (model_indexes t names)
IsAwaiting t b (questions.Difference first second) =
    IsOpenAmong b (model_indexes t (first ∷ second ∷ []))
