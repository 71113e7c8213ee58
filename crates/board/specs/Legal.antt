-- Which operations may follow which.
use Rattle.std.specs.Prelude.{◌≡◌, ◌↔◌, ◌⊎◌, ℕ, ◌<◌, ◌≤◌, List, [], ◌∷◌, length, Bool, ◌&&◌, IsTrue, Option, Some, slice_get, fold, Contains}
use Rattle.std.specs.Arc.{arc_value}
use Rattle.text_values.specs.declared.test.Test.{Test}
use Rattle.outcome_states.specs.declared.answer.Outcome.{Outcome}
use Rattle.bench_texts.specs.declared.model.NamedModel.{NamedModel}
use Rattle.bench_texts.specs.declared.replacement.Replacement.{Replacement}
use Rattle.bench_texts.specs.declared.replacement.Replacement.TheVariants as made
use Rattle.bench_texts.specs.declared.texts.Texts.{Texts}
use Rattle.bench_texts.specs.Held.{IsModelRead}
use Rattle.bench_texts.specs.Replacements.{tests_with, models_with, printed_by}
use Rattle.bench_slices.specs.Slices.{Slice}
use Rattle.bench_slices.specs.Reach.{test_after, model_after, cell_slice, is_of}
use Rattle.from_scratch.specs.FromScratch.{IsFromScratch}
use Rattle.board.specs.declared.operation.BoardOp.{BoardOp}
use Rattle.board.specs.declared.operation.BoardOp.TheVariants.{Edit, Settle}
use Rattle.board.specs.declared.operation.CellIndex.{CellIndex}
use Rattle.board.specs.declared.operation.NameChange.{NameChange}
use Rattle.board.specs.declared.operation.NameChange.TheVariants.{PutTest, DropTest, PutModel, DropModel}

-- ---- texts

-- the tests and the models that the bench holds, in their orders
pub record TestsAndModels : Type 0 where
  pub tests : List Test
  pub models : List NamedModel

abbrev pub tests_and_models : Texts → TestsAndModels
tests_and_models t = record { tests = t.tests.items; models = t.models.items }

abbrev pub no_tests_or_models : TestsAndModels
no_tests_or_models = record { tests = []; models = [] }

-- with what an edit puts in the place of what
abbrev pub tests_and_models_with : Replacement → TestsAndModels → TestsAndModels
tests_and_models_with r h = record { tests = tests_with r h.tests; models = models_with r h.models }

abbrev pub tests_and_models_after : TestsAndModels → BoardOp → TestsAndModels
tests_and_models_after h (Edit edit) = tests_and_models_with edit.prepared.value.replacement h
tests_and_models_after h (Settle at outcome) = h

-- the texts after the edits among these operations
abbrev pub texts_after : List BoardOp → TestsAndModels
texts_after ops = fold tests_and_models_after no_tests_or_models ops

abbrev pub number_after : ℕ → BoardOp → ℕ
number_after last (Edit edit) = edit.number
number_after last (Settle at outcome) = last

-- the number of the last edit among these operations
abbrev pub last_number : List BoardOp → ℕ
last_number ops = fold number_after 0 ops

-- ---- edits

abbrev pub board_slice_before : TestsAndModels → (test model : ℕ) → Option Slice
board_slice_before h i j = cell_slice (slice_get h.tests i) (slice_get h.models j)

-- by the indexes before the edit, as test_after and model_after count
abbrev pub board_slice_after : TestsAndModels → Replacement → (test model : ℕ) → Option Slice
board_slice_after h r i j = cell_slice (test_after r h.tests i) (model_after r h.models j)

-- the edit puts the test or the model of the cell as a whole, or its slice before the edit and
-- after it differs
abbrev pub IsCellReached : TestsAndModels → (whole : Bool) → Replacement → (test model : ℕ) → Type 0
IsCellReached h whole r i j =
    IsTrue (whole && is_of r i j) ⊎ ¬ (board_slice_before h i j ≡ board_slice_after h r i j)

abbrev pub IsCellOfTexts : TestsAndModels → CellIndex → Type 0
IsCellOfTexts h at = (at.test < length h.tests) × (at.model < length h.models)

-- The list has the cells that the edit reaches, of those that there are after it; each other cell
-- has one slice before the edit and after it.
pub record ListsReached (h : TestsAndModels) (whole : Bool) (r : Replacement)
    (cells : List CellIndex)
    : Type 0 where
  pub exact : (at : CellIndex)
      → Contains cells at
      ↔ (IsCellOfTexts (tests_and_models_with r h) at × IsCellReached h whole r at.test at.model)
  pub kept : (at : CellIndex) → (Contains cells at → ⊥)
      → board_slice_before h at.test at.model ≡ board_slice_after h r at.test at.model

-- The change of names is that of what the edit puts or drops. The cells of what is dropped go, so
-- none is listed.
abbrev pub Announces : TestsAndModels → (whole : Bool) → NameChange → List CellIndex → Replacement
    → Type 0
Announces h whole (PutTest at name) cells (made.PutTest index test) =
    (at ≡ index) × (at ≤ length h.tests) × (arc_value name ≡ test.name)
    × ListsReached h whole (made.PutTest index test) cells
Announces h whole (DropTest at) cells (made.DropTest index) =
    (at ≡ index) × (at < length h.tests) × (cells ≡ [])
Announces h whole (PutModel at name items) cells (made.PutModel index model next) =
    (at ≡ index) × (at ≤ length h.models) × (arc_value name ≡ model.name)
    × ListsReached h whole (made.PutModel index model next) cells
    × (Some (arc_value items).items ≡ printed_by (made.PutModel index model next))
    × IsModelRead model
Announces h whole (DropModel at) cells (made.DropModel index) =
    (at ≡ index) × (at < length h.models) × (cells ≡ [])
Announces h whole change cells r = ⊥

-- ---- outcomes

-- the cell is there, and this is what evaluating its test under its model from nothing gives
pub record IsRightAt (h : TestsAndModels) (i j : ℕ) (outcome : Outcome) : Type 0 where
  pub test : Test
  pub model : NamedModel
  pub test_there : slice_get h.tests i ≡ Some test
  pub model_there : slice_get h.models j ≡ Some model
  pub right : IsFromScratch test model.text outcome

-- ---- lists of operations

-- The operation may come next: numbers rise and an edit announces what it does, and an outcome is
-- right for the texts there.
abbrev pub MayFollow : TestsAndModels → ℕ → BoardOp → Type 0
MayFollow h last (Edit edit) =
    (last < edit.number)
    × Announces h edit.prepared.value.whole edit.change edit.reached.items
    edit.prepared.value.replacement
MayFollow h last (Settle at outcome) = IsRightAt h at.test at.model (arc_value outcome)

abbrev pub LegalFrom : TestsAndModels → ℕ → List BoardOp → Type 0
LegalFrom h last [] = Unit {0}
LegalFrom h last (op ∷ ops) =
    MayFollow h last op × LegalFrom (tests_and_models_after h op) (number_after last op) ops

-- each operation may follow those before it
abbrev pub IsLegal : List BoardOp → Type 0
IsLegal ops = LegalFrom no_tests_or_models 0 ops
