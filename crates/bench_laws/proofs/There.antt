-- A cell is there just where the texts have its test and its model.
use Rattle.std.proofs.Common.{◌≡◌, ◌⊎◌, ℕ, inl, inr, List, [], ◌∷◌, map, Option, Some, None, slice_get, refl, sym, ap, ◌∙◌}
use Rattle.std.proofs.lemmas.Option.{none-some}
use Rattle.text_values.specs.declared.test.Test.{Test}
use Rattle.text_values.specs.TestValue.{content_of}
use Rattle.outcome_states.specs.declared.answer.Outcome.{Outcome}
use Rattle.memo_core.specs.declared.keys.Node.{Node}
use Rattle.bench_nodes.specs.declared.table.ModelRow.{ModelRow}
use Rattle.bench_nodes.specs.declared.table.TestRow.{TestRow}
use Rattle.bench_texts.specs.declared.model.NamedModel.{NamedModel}
use Rattle.bench_texts.specs.BenchTexts.{test_index, model_index}
use Rattle.bench_texts.specs.Held.{texts_of, plain_model}
use Rattle.board.specs.Legal.{TestsAndModels, tests_and_models}
use Rattle.board.specs.Results.{test_by_name, model_by_name, HasBoth, LacksOne, IsResultIn}
use Rattle.board.proofs.ShownNames.{found_alike}
use Rattle.bench_instance.specs.declared.stamped_texts.StampedTexts.{StampedTexts}
use Rattle.bench_instance.specs.StampedTexts.{AreSoundTexts, stamped_net, verdict_by, verdict_of}
use Rattle.bench_instance.specs.StampedCells.{scratch_by, cell_from_scratch, test_of, model_of as model_in}
use Rattle.bench_instance.specs.Lemmas.CellProofs.{cell_in, row_there, model_row_there}
use Rattle.cells.specs.declared.shown.Shown.{Shown}
use Rattle.cells.specs.declared.shown.Shown.TheVariants.{Settled, Open, NoCell}
use Rattle.cells.specs.Cells.{IsSettledCell, IsCellShown}
use Rattle.bench_laws.specs.Live.{live_cells}
use Rattle.bench_laws.specs.There.{LiveState, IsRightShown, HasJustItsCells, ShowsRight}

pub test_names : (ts : List Test) → map (λ t. t.name) ts ≡ map (λ c. c.name) (map content_of ts)
test_names [] = refl
test_names (t ∷ ts) = ap (λ (l : List (List ℕ)). t.name ∷ l) (test_names ts)

pub model_names : (ms : List NamedModel)
    → map (λ m. m.name) ms ≡ map (λ m. m.name) (map plain_model ms)
model_names [] = refl
model_names (m ∷ ms) = ap (λ (l : List (List ℕ)). m.name ∷ l) (model_names ms)

-- the verdict is there where both rows are
no_verdict : (a : Option TestRow) (b : Option ModelRow) → verdict_by a b ≡ None
    → (a ≡ None) ⊎ (b ≡ None)
no_verdict None b e = inl refl
no_verdict (Some r) None e = inr refl
no_verdict (Some r) (Some m) e = cc

lacks_one : (c : Option Test) (m : Option NamedModel)
    → ((d : Test) → c ≡ Some d → (n : NamedModel) → m ≡ Some n → ⊥) → (c ≡ None) ⊎ (m ≡ None)
lacks_one None m never = inl refl
lacks_one (Some c) None never = inr refl
lacks_one (Some c) (Some m) never = absurd (never c refl m refl)

is_none : (v : Option Node) → ((n : Node) → v ≡ Some n → ⊥) → v ≡ None
is_none None never = refl
is_none (Some n) never = absurd (never n refl)

both_none : {A : Type 0} (x : Option A) (a : A) → x ≡ None → x ≡ Some a → ⊥
both_none x a none some = none-some a (sym none ∙ some)

result_by : (h : TestsAndModels) (test model : List ℕ) (o : Outcome) (c : Option Test) (m : Option NamedModel)
    → test_by_name h test ≡ c → model_by_name h model ≡ m → scratch_by c m o → IsResultIn h test model o
result_by h test model o None m e f right = absurd right
result_by h test model o (Some c) None e f right = absurd right
result_by h test model o (Some c) (Some m) e f right =
    record { content = c; under = m; test_is = e; model_is = f; right = right }

module _ (t : StampedTexts) (sound : AreSoundTexts t) where
  abbrev held : TestsAndModels
  held = tests_and_models t.texts

  -- the test and the model of a name are one, by the texts and by their contents
  test_is : (test : List ℕ) → test_by_name held test ≡ test_of t test
  test_is test =
      ap (slice_get t.texts.tests.items) (found_alike (λ x. x.name) (λ c. c.name) test
      t.texts.tests.items (map content_of t.texts.tests.items) (test_names t.texts.tests.items))

  model_is : (model : List ℕ) → model_by_name held model ≡ model_in t model
  model_is model =
      ap (slice_get t.texts.models.items) (found_alike (λ x. x.name) (λ m. m.name) model
      t.texts.models.items (map plain_model t.texts.models.items)
      (model_names t.texts.models.items))

  no_row : (test : List ℕ) (c : Test) → test_by_name held test ≡ Some c
      → slice_get t.parts.table.tests.items (test_index test (texts_of t.texts).tests) ≡ None → ⊥
  no_row test c there none =
      let i : ℕ = test_index test (texts_of t.texts).tests in
      let row = row_there t.parts.last t.parts.table.tests.items t.texts.tests.items t.parts.locations.items i c ((sound.parts_are).built).tests (sym (test_is test) ∙ there) in
      both_none (slice_get t.parts.table.tests.items i) row.0 none row.1

  no_model_row : (model : List ℕ) (m : NamedModel) → model_by_name held model ≡ Some m
      → slice_get t.parts.table.models.items (model_index model (texts_of t.texts).models) ≡ None
      → ⊥
  no_model_row model m there none =
      let j : ℕ = model_index model (texts_of t.texts).models in
      let row = model_row_there t.parts.table.models.items t.texts.models.items j m (sound.parts_are).each_model (sym (model_is model) ∙ there) in
      both_none (slice_get t.parts.table.models.items j) row.0 none row.1

  lacking : (test model : List ℕ) → verdict_of t test model ≡ None → LacksOne held test model
  lacking test model none =
      let rows = no_verdict (slice_get t.parts.table.tests.items (test_index test (texts_of t.texts).tests)) (slice_get t.parts.table.models.items (model_index model (texts_of t.texts).models)) none in
      lacks_one (test_by_name held test) (model_by_name held model)
      (λ c there m under. elim rows [
        | inl absent ↦ no_row test c there absent
        | inr absent ↦ no_model_row model m under absent
      ])

  no_cell : (test model : List ℕ) → LacksOne held test model → verdict_of t test model ≡ None
  no_cell test model lacks =
      is_none (verdict_of t test model)
      (λ n is.
      let cell = cell_in t test model n sound is in
      elim lacks [
        | inl absent ↦ both_none (test_of t test) cell.of_test (sym (test_is test) ∙ absent)
            cell.test_is
        | inr absent ↦ both_none (model_in t model) cell.of_model (sym (model_is model) ∙ absent)
            cell.model_is
      ])

  has_both : (test model : List ℕ) (n : Node) → verdict_of t test model ≡ Some n
      → HasBoth held test model
  has_both test model n is =
      let cell = cell_in t test model n sound is in
      record {
        content = cell.of_test;
        under = cell.of_model;
        test_is = test_is test ∙ cell.test_is;
        model_is = model_is model ∙ cell.model_is;
      }

  result_is : (test model : List ℕ) (o : Outcome) → cell_from_scratch t test model o
      → IsResultIn held test model o
  result_is test model o right =
      result_by held test model o (test_of t test) (model_in t model) (test_is test)
      (model_is model) right

pub has_just_its_cells : (b : LiveState) → AreSoundTexts b.texts → HasJustItsCells b
has_just_its_cells b sound test model =
    (lacking b.texts sound test model, no_cell b.texts sound test model)

right_shown : (b : LiveState) (test model : List ℕ) (shown : Shown Outcome) → AreSoundTexts b.texts
    → ((o : Outcome) → IsSettledCell stamped_net live_cells b test model o
    → cell_from_scratch b.texts test model o)
    → IsCellShown stamped_net live_cells b test model shown
    → IsRightShown (tests_and_models b.texts.texts) test model shown
right_shown b test model (Settled o) sound right is =
    result_is b.texts sound test model o.now (right o.now is)
right_shown b test model Open sound right is = has_both b.texts sound test model is.verdict is.is
right_shown b test model NoCell sound right is = lacking b.texts sound test model is

pub shows_right : (b : LiveState) → AreSoundTexts b.texts
    → ((test model : List ℕ) (o : Outcome) → IsSettledCell stamped_net live_cells b test model o
    → cell_from_scratch b.texts test model o) → ShowsRight b
shows_right b sound right test model shown is =
    right_shown b test model shown sound (λ o settled. right test model o settled) is
