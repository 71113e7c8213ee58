-- What an edit puts in the place of what.
use Rattle.std.specs.Prelude.{◌≡◌, ◌<◌, ◌≤◌, ℕ, List, Option, Some, None, remove, vec_len, vec_capacity}
use Rattle.text_values.specs.declared.test.Test.{Test}
use Rattle.text_values.specs.TestValue.{content_of}
use Rattle.litmus_grammar.specs.Texts.{ReadsTest}
use Rattle.bench_texts.specs.declared.model.NamedModel.{NamedModel}
use Rattle.bench_texts.specs.declared.replacement.Replacement.{Replacement}
use Rattle.bench_texts.specs.declared.replacement.Replacement.TheVariants as made
use Rattle.bench_texts.specs.declared.texts.Texts.{Texts}
use Rattle.bench_texts.specs.BenchTexts.{BenchTexts, test_index, model_index, put_at, with_tests, with_models}
use Rattle.bench_texts.specs.Edits.{Edit, PutTest, DropTest, SetInit, SetThread, SetCond, SetLocations, PutModel, DropModel, SetItem, InsertItem, RemoveItem}
use Rattle.bench_texts.specs.Held.{plain_model, IsModelRead}
use Rattle.bench_texts.specs.Printed.{printed_items}

-- the texts with what is put
abbrev pub texts_with : Replacement → BenchTexts → BenchTexts
texts_with (made.PutTest at test) t = with_tests (put_at at (content_of test)) t
texts_with (made.DropTest at) t = with_tests (λ ts. remove ts at) t
texts_with (made.PutModel at model next) t = with_models (put_at at (plain_model model)) next t
texts_with (made.DropModel at) t = with_models (λ ms. remove ms at) t.next t

-- the tests with what is put, and the models: those that are not named stay what they are
abbrev pub tests_with : Replacement → List Test → List Test
tests_with (made.PutTest at test) ts = put_at at test ts
tests_with (made.DropTest at) ts = remove ts at
tests_with (made.PutModel at model next) ts = ts
tests_with (made.DropModel at) ts = ts

abbrev pub models_with : Replacement → List NamedModel → List NamedModel
models_with (made.PutTest at test) ms = ms
models_with (made.DropTest at) ms = ms
models_with (made.PutModel at model next) ms = put_at at model ms
models_with (made.DropModel at) ms = remove ms at

-- The index is there, there is room for one more where one is added, and a model that is put is
-- read.
abbrev pub IsReplaceable : Texts → Replacement → Type 0
IsReplaceable t (made.PutTest at test) =
    (at ≤ vec_len t.tests) × (at ≡ vec_len t.tests → vec_len t.tests < vec_capacity t.tests)
IsReplaceable t (made.DropTest at) = at < vec_len t.tests
IsReplaceable t (made.PutModel at model next) =
    (at ≤ vec_len t.models) × (at ≡ vec_len t.models → vec_len t.models < vec_capacity t.models)
    × IsModelRead model
IsReplaceable t (made.DropModel at) = at < vec_len t.models

-- ---- what each edit puts or drops

-- a test is put at that index
abbrev pub IsTestPut : ℕ → Replacement → Type 0
IsTestPut i (made.PutTest at test) = at ≡ i
IsTestPut i _ = ⊥

-- a model is put at that index
abbrev pub IsModelPut : ℕ → Replacement → Type 0
IsModelPut i (made.PutModel at model next) = at ≡ i
IsModelPut i _ = ⊥

-- the test that the text reads as is put at the index of its name
abbrev pub IsTextPut : BenchTexts → List ℕ → Replacement → Type 0
IsTextPut t text (made.PutTest at test) =
    (at ≡ test_index test.name t.tests) × ReadsTest text (content_of test)
IsTextPut t text _ = ⊥

-- The edit puts or drops what it names: the test or the model of its name. One that is not there
-- yet is put behind the last.
abbrev pub IsPutBy : BenchTexts → Edit → Replacement → Type 0
IsPutBy t (PutTest text) r = IsTextPut t text r
IsPutBy t (DropTest test) r = r ≡ made.DropTest (test_index test t.tests)
IsPutBy t (SetInit test text) r = IsTestPut (test_index test t.tests) r
IsPutBy t (SetThread test thread text) r = IsTestPut (test_index test t.tests) r
IsPutBy t (SetCond test text) r = IsTestPut (test_index test t.tests) r
IsPutBy t (SetLocations test text) r = IsTestPut (test_index test t.tests) r
IsPutBy t (PutModel model text) r = IsModelPut (model_index model t.models) r
IsPutBy t (DropModel model) r = r ≡ made.DropModel (model_index model t.models)
IsPutBy t (SetItem model item text) r = IsModelPut (model_index model t.models) r
IsPutBy t (InsertItem model before text) r = IsModelPut (model_index model t.models) r
IsPutBy t (RemoveItem model item) r = IsModelPut (model_index model t.models) r

-- ---- what is printed

-- the printed items of a model that is put
abbrev pub printed_by : Replacement → Option (List ℕ)
printed_by (made.PutModel at model next) = Some (printed_items (plain_model model).items)
printed_by (made.PutTest at test) = None
printed_by (made.DropTest at) = None
printed_by (made.DropModel at) = None
