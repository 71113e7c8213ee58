-- Which cells an edit reaches. Read Slices first. Tests and models go by their indexes before the
-- edit: one that the edit adds has the index behind the last.
use Rattle.std.specs.Prelude.{◌≡◌, ℕ, ◌==◌, ◌⊎◌, List, Option, Some, None, Bool, ◌&&◌, IsTrue, slice_get, if◌then◌else◌}
use Rattle.text_values.specs.declared.test.Test.{Test}
use Rattle.text_values.specs.TestValue.{content_of}
use Rattle.bench_texts.specs.declared.model.NamedModel.{NamedModel}
use Rattle.bench_texts.specs.declared.prepared.Prepared.{Prepared}
use Rattle.bench_texts.specs.declared.replacement.Replacement.{Replacement}
use Rattle.bench_texts.specs.declared.replacement.Replacement.TheVariants as made
use Rattle.bench_texts.specs.declared.texts.Texts.{Texts}
use Rattle.bench_slices.specs.Slices.{Slice, slice}

-- the test of an index after the edit, where there is one
abbrev pub test_after : Replacement → List Test → ℕ → Option Test
test_after (made.PutTest at test) ts i = if i == at then Some test else slice_get ts i
test_after (made.DropTest at) ts i = if i == at then None else slice_get ts i
test_after (made.PutModel at model next) ts i = slice_get ts i
test_after (made.DropModel at) ts i = slice_get ts i

-- the model of an index after the edit
abbrev pub model_after : Replacement → List NamedModel → ℕ → Option NamedModel
model_after (made.PutTest at test) ms j = slice_get ms j
model_after (made.DropTest at) ms j = slice_get ms j
model_after (made.PutModel at model next) ms j = if j == at then Some model else slice_get ms j
model_after (made.DropModel at) ms j = if j == at then None else slice_get ms j

-- the slice of a cell, where its test and its model are there
abbrev pub cell_slice : Option Test → Option NamedModel → Option Slice
cell_slice (Some test) (Some model) = Some (slice (content_of test) model)
cell_slice (Some test) None = None
cell_slice None m = None

abbrev pub slice_before : Texts → (i j : ℕ) → Option Slice
slice_before t i j = cell_slice (slice_get t.tests.items i) (slice_get t.models.items j)

abbrev pub slice_after : Texts → Replacement → (i j : ℕ) → Option Slice
slice_after t r i j = cell_slice (test_after r t.tests.items i) (model_after r t.models.items j)

-- the edit is of the test or of the model of the cell
abbrev pub is_of : Replacement → (i j : ℕ) → Bool
is_of (made.PutTest at test) i j = i == at
is_of (made.DropTest at) i j = i == at
is_of (made.PutModel at model next) i j = j == at
is_of (made.DropModel at) i j = j == at

-- The edit puts or drops the test or the model as a whole, or the slice of the cell before it and
-- after it differs.
abbrev pub ReachesCellAt : Texts → Prepared → (i j : ℕ) → Type 0
ReachesCellAt t p i j =
    IsTrue (p.whole && is_of p.replacement i j)
    ⊎ ¬ (slice_before t i j ≡ slice_after t p.replacement i j)
