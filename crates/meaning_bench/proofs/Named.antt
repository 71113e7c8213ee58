-- Cells that show what their tests say do so by the plain texts.
use Rattle.std.proofs.Common.{◌≡◌, ℕ, List, All, Option, Some, None, inl, inr, length, map, refl, sym, ap, subst, ◌∙◌, arith}
use Rattle.std.specs.Prelude.{slice_get, option_map}
use Rattle.std.proofs.lemmas.Option.{slice_get-map}
use Rattle.text_values.specs.declared.test.Test.{Test}
use Rattle.text_values.specs.ModelValue.{Clause}
use Rattle.text_values.specs.TestValue.{Content, content_of}
use Rattle.outcome_states.specs.declared.answer.Outcome.{Outcome}
use Rattle.outcome_texts.specs.Cells as shown_as
use Rattle.outcome_texts.specs.Cells.{Cell}
use Rattle.bench_texts.specs.declared.model.NamedModel.{NamedModel}
use Rattle.bench_texts.specs.declared.texts.Texts.{Texts}
use Rattle.bench_texts.specs.BenchTexts.{BenchTexts, PlainModel, test_index, model_index}
use Rattle.bench_texts.specs.Held.{texts_of, plain_model}
use Rattle.board.specs.declared.operation.BoardOp.{BoardOp}
use Rattle.board.specs.Contents.{cell_named}
use Rattle.board.specs.Histories.{IsContentOf, contents_after}
use Rattle.board.specs.Legal.{TestsAndModels, tests_and_models, texts_after}
use Rattle.board.specs.Operations.{board_after}
use Rattle.board.specs.Results.{test_by_name, model_by_name, IsRightCell, ShowsRightCells}
use Rattle.board.proofs.Histories.{contents_are_those}
use Rattle.board.proofs.ShownNames.{found, found_alike}
use Rattle.cells.specs.declared.shown.Shown.{Shown}
use Rattle.cells.specs.declared.shown.Shown.TheVariants.{Settled, Open, NoCell}
use Rattle.bench_laws.specs.There.{IsRightShown}
use Rattle.bench_laws.proofs.There.{test_names, model_names}
use Rattle.session_answers.specs.Cells.{test_named, model_named}
use Rattle.session_answers.proofs.Named.{clauses_of-items}
use Rattle.meaning.specs.Names.{locations}
use Rattle.meaning.specs.Evaluates.{Evaluates}
use Rattle.meaning_outcomes.specs.Outcomes.{IsMeant, FromScratchIsMeant, outcome_by_name}
use Rattle.meaning_edits.proofs.Edited.{held_at}
use Rattle.meaning_bench.specs.Says.{SaysUnder, IsCellBy}
use Rattle.meaning_bench.specs.Shown.{cell_shown, ShowsCellsBy}

-- what a test says under the text of a model, it says under its numbered items
says_under : (test : Test) (model : NamedModel) (o : Outcome) → IsMeant test model.text o
    → SaysUnder (content_of test) (plain_model model) o
says_under test model o meant =
    let long : length model.numbers.items ≡ length model.text.items.items = omega (arith, model.paired, model.numbers.ok.0, model.text.items.ok.0) in
    subst
    (λ (cs : List Clause). Evaluates (content_of test) cs (outcome_by_name (locations (content_of test)) o.result))
    (clauses_of-items model.numbers.items model.text.items.items long) meant

module _ (t : BenchTexts) (h : TestsAndModels) (same : IsContentOf t h)
    (meant : All FromScratchIsMeant h.tests) where
  test_there : (name : List ℕ) → test_named t name ≡ option_map content_of (test_by_name h name)
  test_there name =
      ap (λ (l : List Content). slice_get l (test_index name l)) same.tests
      ∙ slice_get-map content_of h.tests (test_index name (map content_of h.tests))
      ∙ ap (λ (k : ℕ). option_map content_of (slice_get h.tests k)) (sym (found_alike (λ x. x.name)
      (λ c. c.name) name h.tests (map content_of h.tests) (test_names h.tests)))

  model_there : (name : List ℕ) → model_named t name ≡ option_map plain_model (model_by_name h name)
  model_there name =
      ap (λ (l : List PlainModel). slice_get l (model_index name l)) same.models
      ∙ slice_get-map plain_model h.models (model_index name (map plain_model h.models))
      ∙ ap (λ (k : ℕ). option_map plain_model (slice_get h.models k)) (sym (found_alike (λ x. x.name)
      (λ m. m.name) name h.models (map plain_model h.models) (model_names h.models)))

  test_at : (name : List ℕ) (test : Option Test) → test_by_name h name ≡ test
      → test_named t name ≡ option_map content_of test
  test_at name test e = test_there name ∙ ap (λ (o : Option Test). option_map content_of o) e

  model_at : (name : List ℕ) (model : Option NamedModel) → model_by_name h name ≡ model
      → model_named t name ≡ option_map plain_model model
  model_at name model e =
      model_there name ∙ ap (λ (o : Option NamedModel). option_map plain_model o) e

  cell_by : (test model : List ℕ) (cell : Cell) → IsRightCell h test model cell
      → IsCellBy t test model cell
  cell_by test model shown_as.NoCell lacks = elim lacks [
    | inl none ↦ inl (test_at test None none)
    | inr none ↦ inr (model_at model None none)
  ]
  cell_by test model shown_as.Open both = record {
    content = content_of both.content;
    under = plain_model both.under;
    test_is = test_at test (Some both.content) both.test_is;
    model_is = model_at model (Some both.under) both.model_is;
  }
  cell_by test model (shown_as.Settled o) right = record {
    content = content_of right.content;
    under = plain_model right.under;
    test_is = test_at test (Some right.content) right.test_is;
    model_is = model_at model (Some right.under) right.model_is;
    says =
        says_under right.content right.under o
        (held_at FromScratchIsMeant h.tests (found (λ t. t.name) test h.tests) right.content meant
        right.test_is right.under.text o right.right);
  }

-- ---- a board

pub board_cell : (ops : List BoardOp) → All FromScratchIsMeant (texts_after ops).tests
    → (test model : List ℕ) (cell : Cell)
    → IsRightCell (texts_after ops) test model cell → IsCellBy (contents_after ops) test model cell
board_cell ops meant test model cell right =
    cell_by (contents_after ops) (texts_after ops) (contents_are_those ops) meant test model cell
    right

pub cells_by : (ops : List BoardOp) → All FromScratchIsMeant (texts_after ops).tests
    → ShowsRightCells ops → ShowsCellsBy ops
cells_by ops meant right test model =
    board_cell ops meant test model (cell_named (board_after ops) test model) (right test model)

-- ---- what a bench shows

right_cell : (h : TestsAndModels) (test model : List ℕ) (shown : Shown Outcome)
    → IsRightShown h test model shown → IsRightCell h test model (cell_shown shown)
right_cell h test model (Settled o) right = right
right_cell h test model Open right = right
right_cell h test model NoCell right = right

pub shown_by : (x : Texts) → All FromScratchIsMeant x.tests.items → (test model : List ℕ)
    (shown : Shown Outcome) → IsRightShown (tests_and_models x) test model shown
    → IsCellBy (texts_of x) test model (cell_shown shown)
shown_by x meant test model shown right =
    cell_by (texts_of x) (tests_and_models x) (record { tests = refl; models = refl }) meant test
    model (cell_shown shown) (right_cell (tests_and_models x) test model shown right)
