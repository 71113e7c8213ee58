-- Cells of texts with stamps: what evaluating the present test under the present model from nothing
-- gives, and which edits reach a cell. Read it after StampedTexts.
use Rattle.std.specs.Prelude.{◌≡◌, ℕ, List, Option, Some, None, slice_get}
use Rattle.text_values.specs.declared.test.Test.{Test}
use Rattle.outcome_states.specs.declared.answer.Outcome.{Outcome}
use Rattle.from_scratch.specs.FromScratch.{IsFromScratch}
use Rattle.bench_texts.specs.declared.edit.Edit.{Edit}
use Rattle.bench_texts.specs.declared.model.NamedModel.{NamedModel}
use Rattle.bench_texts.specs.BenchTexts.{test_index, model_index}
use Rattle.bench_texts.specs.Held.{texts_of}
use Rattle.bench_slices.specs.Reach.{cell_slice}
use Rattle.bench_slices.specs.Slices.{Slice}
use Rattle.bench_instance.specs.declared.stamped_texts.StampedTexts.{StampedTexts}

-- the test and the model of a name, where they are there
abbrev pub test_of : StampedTexts → List ℕ → Option Test
test_of t test = slice_get t.texts.tests.items (test_index test (texts_of t.texts).tests)

abbrev pub model_of : StampedTexts → List ℕ → Option NamedModel
model_of t model = slice_get t.texts.models.items (model_index model (texts_of t.texts).models)

abbrev pub scratch_by : Option Test → Option NamedModel → Outcome → Type 0
scratch_by None m o = ⊥
scratch_by (Some c) None o = ⊥
scratch_by (Some c) (Some m) o = IsFromScratch c m.text o

-- what evaluating the test under the model of these names from nothing gives
abbrev pub cell_from_scratch : StampedTexts → List ℕ → List ℕ → Outcome → Type 0
cell_from_scratch t test model o = scratch_by (test_of t test) (model_of t model) o

-- what the verdict of the test under the model of these names depends on
abbrev pub slice_by_names : StampedTexts → List ℕ → List ℕ → Option Slice
slice_by_names t test model = cell_slice (test_of t test) (model_of t model)

-- an edit reaches the cell whose slice it changes
abbrev pub ReachesCellNamed : StampedTexts → Edit → StampedTexts → List ℕ → List ℕ → Type 0
ReachesCellNamed t e u test model = slice_by_names u test model ≡ slice_by_names t test model → ⊥
