-- An edit makes one result of texts.
use Rattle.std.proofs.Common.{◌≡◌, ℕ, zero, suc, ◌<◌, ◌^◌, ◌+◌, List, [], ◌∷◌, length, map, sym, ap, ◌∙◌, arith}
use Rattle.std.specs.Prelude.{slice_index, insert}
use Rattle.std.proofs.lemmas.List.{length-map}
use Rattle.text_values.specs.declared.test.InitEntry.{InitEntry}
use Rattle.text_values.specs.declared.test.Place.{Place}
use Rattle.text_values.specs.declared.test.Step.{Step}
use Rattle.text_values.specs.declared.test.Quantifier.{Quantifier}
use Rattle.text_values.specs.declared.test.Test.{Test}
use Rattle.text_values.specs.TestValue.{Content, Formula, content_of, thread_steps}
use Rattle.text_values.specs.ModelValue.{Clause}
use Rattle.cat_grammar.specs.declared.form.Form.TheVariants as forms
use Rattle.bench_texts.specs.BenchTexts.{BenchTexts, test_index, model_index, put_at, changed_at, with_init, with_thread, with_condition, with_observed, with_items, with_tests, with_models, numbered_items}
use Rattle.bench_texts.specs.declared.texts.Texts.{Texts}
use Rattle.bench_texts.specs.Held.{texts_of}
use Rattle.bench_texts.specs.Edits.{Edit, PutTest, DropTest, SetInit, SetThread, SetCond, SetLocations, PutModel, DropModel, SetItem, InsertItem, RemoveItem, EditMakes, thread_count, index_in, index_before}
use Rattle.bench_text_laws.specs.Laws.{HasOneEditResult}
use Rattle.bench_text_laws.proofs.Readings.{clauses_one, item_one, test_one, thread_one, init_one, locations_one, condition_one}

-- ---- no test has 2^64 threads

few_in : (t : Test) → length (content_of t).threads < 18446744073709551616
few_in t =
    let many : length (content_of t).threads ≡ length t.threads.items = length-map t.threads.items thread_steps in
    let small : length t.threads.items < 2 ^ 63 = omega (arith, t.threads.ok.0, t.threads.small) in
    omega (arith, many, small)

few_at : (ts : List Test) (i : ℕ)
    → slice_index (map (λ c. length c.threads) (map content_of ts)) i < 18446744073709551616
few_at [] i = omega arith
few_at (t ∷ ts) zero = few_in t
few_at (t ∷ ts) (suc i) = few_at ts i

pub few_threads : (own : Texts) (test : List ℕ)
    → thread_count (texts_of own) test < 18446744073709551616
few_threads own test = few_at own.tests.items (test_index test (texts_of own).tests)

-- ---- what each edit makes

module _ (t : BenchTexts) (few : (test : List ℕ) → thread_count t test < 18446744073709551616) where
  makes_one : (e : Edit) (new other : BenchTexts) → EditMakes t e new → EditMakes t e other → new ≡ other
  makes_one (PutTest text) new other a b =
      a.2
      ∙ ap (λ (c : Content). with_tests (put_at (test_index c.name t.tests) c) t)
      (test_one text a.0 b.0 a.1 b.1) ∙ sym b.2
  makes_one (DropTest test) new other a b = a ∙ sym b
  makes_one (SetInit test text) new other a b =
      a.2
      ∙ ap
      (λ (v : List InitEntry).
      with_tests (changed_at (test_index test t.tests) (with_init v)) t)
      (init_one (thread_count t test) (few test) text a.0 b.0 a.1 b.1) ∙ sym b.2
  makes_one (SetThread test thread text) new other a b =
      a.2
      ∙ ap
      (λ (v : List Step).
      with_tests (changed_at (test_index test t.tests) (with_thread thread v)) t)
      (thread_one text a.0 b.0 a.1 b.1) ∙ sym b.2
  makes_one (SetCond test text) new other a b =
      a.2
      ∙ ap
      (λ (v : Quantifier × Formula).
      with_tests (changed_at (test_index test t.tests) (with_condition v)) t)
      (condition_one (thread_count t test) (few test) text a.0 b.0 a.1 b.1) ∙ sym b.2
  makes_one (SetLocations test text) new other a b =
      a.2
      ∙ ap
      (λ (v : List Place).
      with_tests (changed_at (test_index test t.tests) (with_observed v)) t)
      (locations_one (thread_count t test) (few test) text a.0 b.0 a.1 b.1) ∙ sym b.2
  makes_one (PutModel model text) new other a b =
      a.2
      ∙ ap
      (λ (cs : List Clause). with_models
      (put_at (model_index model t.models)
      (record { name = model; items = numbered_items t.next cs }))
      (t.next + length cs) t)
      (clauses_one forms.Model text a.0 b.0 a.1 b.1) ∙ sym b.2
  makes_one (DropModel model) new other a b = a ∙ sym b
  makes_one (SetItem model item text) new other a b =
      a.2
      ∙ ap
      (λ (c : Clause). with_models
      (changed_at (model_index model t.models) (with_items
      (put_at (index_in t model item) (record { number = item; clause = c }))))
      t.next t)
      (item_one text a.0 b.0 a.1 b.1) ∙ sym b.2
  makes_one (InsertItem model before text) new other a b =
      a.3
      ∙ ap
      (λ (c : Clause). with_models
      (changed_at (model_index model t.models) (with_items (λ is. insert is
      (index_before t model before)
      (record { number = t.next; clause = c }))))
      (t.next + 1) t)
      (item_one text a.0 b.0 a.1 b.1) ∙ sym b.3
  makes_one (RemoveItem model item) new other a b = a ∙ sym b

pub result_one : (own : Texts) (e : Edit) → HasOneEditResult (texts_of own) e
result_one own e new other a b =
    makes_one (texts_of own) (few_threads own) e new other a.makes b.makes
