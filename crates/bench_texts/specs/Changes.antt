-- What an edit changes, by the indexes of what it changes.
use Rattle.std.specs.Prelude.{◌≡◌, ◌+◌, ◌<◌, ◌≤◌, ◌^◌, length, insert, remove, vec_len, vec_capacity}
use Rattle.std.specs.List.{HoldsAt}
use Rattle.text_values.specs.TestValue.{content_of, thread_steps, formula_of}
use Rattle.text_values.specs.ModelValues.{clause_of}
use Rattle.bench_texts.specs.declared.change.Change.{Change}
use Rattle.bench_texts.specs.declared.change.Change.TheVariants as changes
use Rattle.bench_texts.specs.declared.replacement.Replacement.{Replacement}
use Rattle.bench_texts.specs.declared.replacement.Replacement.TheVariants as made
use Rattle.bench_texts.specs.declared.texts.Texts.{Texts}
use Rattle.bench_texts.specs.BenchTexts.{BenchTexts, put_at, changed_at, with_init, with_thread, with_condition, with_observed, with_items, with_tests, with_models}
use Rattle.bench_texts.specs.Held.{plain_model, texts_of, IsModelRead}
use Rattle.bench_texts.specs.Replacements.{IsTestPut, IsModelPut}

-- the texts after the change
abbrev pub changed_texts : Change → BenchTexts → BenchTexts
changed_texts (changes.PutTest at test) t = with_tests (put_at at (content_of test)) t
changed_texts (changes.DropTest at) t = with_tests (λ ts. remove ts at) t
changed_texts (changes.SetInit at init) t = with_tests (changed_at at (with_init init.items)) t
changed_texts (changes.SetThread at thread other) t =
    with_tests (changed_at at (with_thread thread (thread_steps other))) t
changed_texts (changes.SetCond at c) t =
    with_tests (changed_at at (with_condition (c.quantifier, formula_of c.proposition))) t
changed_texts (changes.SetObserved at observed) t =
    with_tests (changed_at at (with_observed observed.items)) t
changed_texts (changes.PutModel at model next) t =
    with_models (put_at at (plain_model model)) next t
changed_texts (changes.DropModel at) t = with_models (λ ms. remove ms at) t.next t
changed_texts (changes.SetItem at index number item) t =
    with_models
    (changed_at at (with_items (put_at index
    (record { number = number; clause = clause_of item })))) t.next t
changed_texts (changes.InsertItem at index item) t =
    with_models
    (changed_at at (with_items (λ is.
    insert is index (record { number = t.next; clause = clause_of item }))))
    (t.next + 1) t
changed_texts (changes.RemoveItem at index) t =
    with_models (changed_at at (with_items (λ is. remove is index))) t.next t

-- What it changes is there, there is room for one more where it adds one, and a model that it puts
-- is read.
abbrev pub IsChangeReady : Texts → Change → Type 0
IsChangeReady t (changes.PutTest at test) =
    (at ≤ vec_len t.tests) × (at ≡ vec_len t.tests → vec_len t.tests < vec_capacity t.tests)
IsChangeReady t (changes.DropTest at) = at < vec_len t.tests
IsChangeReady t (changes.SetInit at init) = at < vec_len t.tests
IsChangeReady t (changes.SetThread at thread other) =
    (at < vec_len t.tests) × HoldsAt (λ c. thread < length c.threads) (texts_of t).tests at
IsChangeReady t (changes.SetCond at c) = at < vec_len t.tests
IsChangeReady t (changes.SetObserved at observed) = at < vec_len t.tests
IsChangeReady t (changes.PutModel at model next) =
    (at ≤ vec_len t.models) × (at ≡ vec_len t.models → vec_len t.models < vec_capacity t.models)
    × IsModelRead model
IsChangeReady t (changes.DropModel at) = at < vec_len t.models
IsChangeReady t (changes.SetItem at index number item) =
    (at < vec_len t.models) × HoldsAt (λ m. index < length m.items) (texts_of t).models at
IsChangeReady t (changes.InsertItem at index item) =
    (at < vec_len t.models) × HoldsAt (λ m. index ≤ length m.items) (texts_of t).models at
    × HoldsAt (λ m. length m.items < 256) (texts_of t).models at × (t.next + 1 < 2 ^ 64)
IsChangeReady t (changes.RemoveItem at index) =
    (at < vec_len t.models) × HoldsAt (λ m. index < length m.items) (texts_of t).models at

-- the test or the model that it changes is put or dropped
abbrev pub IsPutFor : Change → Replacement → Type 0
IsPutFor (changes.PutTest at test) r = r ≡ made.PutTest at test
IsPutFor (changes.DropTest at) r = r ≡ made.DropTest at
IsPutFor (changes.SetInit at init) r = IsTestPut at r
IsPutFor (changes.SetThread at thread other) r = IsTestPut at r
IsPutFor (changes.SetCond at c) r = IsTestPut at r
IsPutFor (changes.SetObserved at observed) r = IsTestPut at r
IsPutFor (changes.PutModel at model next) r = IsModelPut at r
IsPutFor (changes.DropModel at) r = r ≡ made.DropModel at
IsPutFor (changes.SetItem at index number item) r = IsModelPut at r
IsPutFor (changes.InsertItem at index item) r = IsModelPut at r
IsPutFor (changes.RemoveItem at index) r = IsModelPut at r
