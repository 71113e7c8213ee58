-- The parts of the bench before an edit and after it (`IsOrderlyEdit`), and what the edit leaves of
-- a cell (`CellsAreLeft`). Read it after `Laws` and `BenchCells`.
use Rattle.std.specs.Prelude.{◌≡◌, ℕ, List, map, Some, slice_get, All}
use Rattle.std.specs.List.{AllByRecursion as Each}
use Rattle.text_values.specs.declared.test.Test.{Test}
use Rattle.text_values.specs.TestValue.{content_of, formula_of}
use Rattle.bench_texts.specs.Held.{IsModelRead}
use Rattle.bench_texts.specs.Replacements.{tests_with, models_with}
use Rattle.bench_texts.specs.declared.model.NamedModel.{NamedModel}
use Rattle.bench_texts.specs.declared.reading.Reading.{Reading}
use Rattle.bench_texts.specs.declared.reading.Reading.TheVariants as readings
use Rattle.bench_texts.specs.declared.replacement.Replacement.{Replacement}
use Rattle.bench_nodes.specs.declared.table.ModelRow.{ModelRow}
use Rattle.bench_nodes.specs.declared.table.TestRow.{TestRow}
use Rattle.bench_parts.specs.Contents.{parts_state}
use Rattle.bench_parts.specs.Written.{WrittenModel, WrittenState}
use Rattle.bench_parts.specs.declared.parts.Parts.{Parts}
use Rattle.bench_parts.specs.ItemLaws.{IsOfItsKind}
use Rattle.bench_edits.specs.declared.edited.EditedParts.{EditedParts}
use Rattle.bench_edits.specs.Laws.{IsEdit}
use Rattle.bench_edits.specs.Owed.{ArePartsOf, item_numbers}
use Rattle.bench_text_laws.specs.Orderly.{AreApart}
use Rattle.bench_edits.specs.Readings.{readings_of, written_model, written_state, all_facts}
use Rattle.bench_edits.specs.Kept.{IsKeptState}
use Rattle.bench_edits.specs.BenchCells.{HaveSameCells, LeavesWrittenCell, MayNodesKeep}

-- ---- parts

-- each item that is a node by its text has its kind in the parts
abbrev pub AreKindsOf : Parts → List NamedModel → Type 0
AreKindsOf p models = Each (IsOfItsKind p.table.items.items p.kinds.items) (all_facts models)

-- The parts are those of the tests and the models, which are read. No two tests, models or items
-- have one name or number.
pub record AreOrderlyParts (p : Parts) (tests : List Test) (models : List NamedModel) : Type 0 where
  pub parts_are : ArePartsOf p tests models
  pub kinds : AreKindsOf p models
  pub read : All IsModelRead models
  pub items_apart : AreApart (item_numbers models)
  pub tests_apart : AreApart (map (λ t. t.name) tests)
  pub models_apart : AreApart (map (λ m. m.name) models)

-- an edit keeps the kinds of items
abbrev pub EditsKeepKinds : Type 0
EditsKeepKinds =
    (p q : Parts) (tests : List Test) (models : List NamedModel) (r : Replacement) (number : ℕ)
    (e : EditedParts) → IsEdit p tests models r number e q
    → AreApart (item_numbers (models_with r models))
    → AreKindsOf p models → AreKindsOf q (models_with r models)

-- of orderly parts, the models are kept as they are read, and each used node may keep what it holds
pub record ArePartsKept (p : Parts) (tests : List Test) (models : List NamedModel) : Type 0 where
  pub kept : IsKeptState (parts_state p tests) (readings_of p.table.models.items models)
  pub may_keep : MayNodesKeep (parts_state p tests)

abbrev pub OrderlyPartsAreKept : Type 0
OrderlyPartsAreKept =
    (p : Parts) (tests : List Test) (models : List NamedModel) → AreOrderlyParts p tests models
    → ArePartsKept p tests models

-- ---- cells

-- an edit of that number between orderly parts
pub record IsOrderlyEdit (p q : Parts) (tests : List Test) (models : List NamedModel)
    (r : Replacement) (number : ℕ) (e : EditedParts) : Type 0 where
  pub edit : IsEdit p tests models r number e q
  pub before : AreOrderlyParts p tests models
  pub after : AreOrderlyParts q (tests_with r tests) (models_with r models)

-- a test and a model with their rows
pub record CellRows : Type 0 where
  pub test : Test
  pub model : NamedModel
  pub test_row : TestRow
  pub model_row : ModelRow

-- the cell is there
pub record IsCellOfParts (p : Parts) (tests : List Test) (models : List NamedModel) (c : CellRows)
    : Type 0 where
  pub at : ℕ
  pub test_is : slice_get tests at ≡ Some c.test
  pub test_row_is : slice_get p.table.tests.items at ≡ Some c.test_row
  pub of : ℕ
  pub model_is : slice_get models of ≡ Some c.model
  pub model_row_is : slice_get p.table.models.items of ≡ Some c.model_row

abbrev pub model_in : CellRows → WrittenModel
model_in c = written_model c.model_row c.model

-- the tests have the same condition
pub record IsSameCondition (a b : Test) : Type 0 where
  pub quantifier : b.condition.quantifier ≡ a.condition.quantifier
  pub condition : formula_of b.condition.proposition ≡ formula_of a.condition.proposition

-- the tests say the same: under a fault of the model, their conditions alone count
abbrev pub IsSameFor : Reading → Test → Test → Type 0
IsSameFor (readings.Sound resolved used) a b = content_of b ≡ content_of a
IsSameFor (readings.Faulty fault) a b = IsSameCondition a b

-- the cell of one test and one model before an edit and after it
pub record IsSameCell (a b : CellRows) : Type 0 where
  pub test : b.test.name ≡ a.test.name
  pub model : b.model.name ≡ a.model.name
  pub said : IsSameFor a.model.reading a.test b.test
  pub reads : HaveSameCells (written_model a.model_row a.model) (written_model a.model_row b.model)

-- it keeps its numbers, and the edit leaves it
pub record IsLeft (w v : WrittenState) (a b : CellRows) : Type 0 where
  pub test : b.test_row.id ≡ a.test_row.id
  pub model : b.model_row.id ≡ a.model_row.id
  pub left : LeavesWrittenCell w v (model_in a) (model_in b) a.test_row.id

abbrev pub CellsAreLeft : Type 0
CellsAreLeft =
    (p q : Parts) (tests : List Test) (models : List NamedModel) (r : Replacement) (number : ℕ)
    (e : EditedParts) (next later : ℕ) (a b : CellRows)
    → IsOrderlyEdit p q tests models r number e
    → IsCellOfParts p tests models a → IsCellOfParts q (tests_with r tests) (models_with r models) b
    → IsSameCell a b
    → IsLeft (written_state p tests models next)
    (written_state q (tests_with r tests) (models_with r models) later) a b
