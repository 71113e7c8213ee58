-- Cells that the desk lists as settled are shown as settled.
use Rattle.std.proofs.Common.{◌≡◌, ℕ, zero, suc, ◌+◌, ◌-◌, ◌*◌, ◌^◌, ◌<◌, ◌≤◌, inl, inr, List, [], ◌∷◌, ◌++◌, length, map, Option, Some, None, Bool, true, false, refl, sym, ap, ◌∙◌, subst, arith}
use Rattle.std.specs.Prelude.{slice_get, IsSome, if◌then◌else◌, nat_lt}
use Rattle.std.proofs.Math.Nat.{mul-le-mul_left}
use Rattle.std.proofs.lemmas.Bool.{cases_lt}
use Rattle.std.proofs.lemmas.Option.{none-some, same_Some}
use Rattle.text_values.specs.declared.test.Test.{Test}
use Rattle.text_values.specs.TestValue.{Content, content_of}
use Rattle.outcome_states.specs.declared.answer.Outcome.{Outcome}
use Rattle.bench_nodes.proofs.Lists.{get_left, get_right}
use Rattle.bench_texts.specs.declared.model.NamedModel.{NamedModel}
use Rattle.bench_texts.specs.BenchTexts.{PlainModel, test_index, model_index}
use Rattle.bench_texts.specs.Held.{texts_of, plain_model}
use Rattle.outcome_texts.specs.Cells.{Cell, Settled}
use Rattle.desk_ledger.specs.Boards.{BoardCell, AreSettled}
use Rattle.board.specs.declared.operation.BoardOp.{BoardOp}
use Rattle.board.specs.Contents.{RowContent, ColumnContent, BoardContent, row_index, column_index, cell_at, cells_of, shown_cell, cell_named}
use Rattle.board.specs.Operations.{no_board, board_after}
use Rattle.board.specs.Legal.{TestsAndModels, no_tests_or_models, IsLegal, texts_after}
use Rattle.board.proofs.Names.{IsNamed, as_many, names_from}
use Rattle.bench_instance.specs.declared.stamped_texts.StampedTexts.{StampedTexts}
use Rattle.bench_instance.specs.StampedTexts.{AreSoundTexts}
use Rattle.bench_instance.specs.StampedCells.{cell_from_scratch, scratch_by, test_of, model_of as model_in}
use Rattle.bench_instance.specs.Lemmas.CellProofs.{stands_there, tests_apart, models_apart}
use Rattle.bench_instance.specs.Cells.{cell_with, row_cells, all_cells, IsCountable, board_cells}
use Rattle.bench_instance.specs.Lemmas.Listing.{are_all, all_get, outcome_at, row_cell, cell_of_row}
use Rattle.board.specs.Histories.{IsHistory}
use Rattle.bench_instance.specs.Texts.{AreAfter}
use Rattle.board.specs.Results.{test_by_name, model_by_name, IsResultIn, IsRightCell}
use Rattle.bench_instance.specs.Posted.{ShowsEachResult, SettledIsShown, PostedIsShown}
use Rattle.board.proofs.ShownNames.{found, found_alike, there_alike, same_name, below}
use Rattle.board.proofs.Rights.{one_result, right_cell}
use Rattle.bench_instance.proofs.Contents.{history_is_within}

-- ---- an outcome at an index

settled_get : (os : List (Option Outcome)) (j : ℕ) → IsSome (outcome_at os j)
    → (o : Outcome) × (slice_get os j ≡ Some (Some o))
settled_get [] j h = cc
settled_get (None ∷ os) zero h = cc
settled_get (Some o ∷ os) zero h = (o, refl)
settled_get (p ∷ os) (suc j) h = settled_get os j h

-- a cell at these indexes, settled
pub shown_there : (b : BoardContent) (i j : ℕ) (r : RowContent) → slice_get b.rows i ≡ Some r
    → IsSome (outcome_at r.cells j) → (o : Outcome) × (shown_cell (cell_at b.rows i j) ≡ Settled o)
shown_there b i j r row is =
    let s = settled_get r.cells j is in (
      s.0,
      ap (λ (q : Option RowContent). shown_cell (slice_get (cells_of q) j)) row
          ∙ ap shown_cell s.1,
    )

settled_right : (h : TestsAndModels) (test model : List ℕ) (x : Cell) (o : Outcome) → x ≡ Settled o
    → IsRightCell h test model x → IsResultIn h test model o
settled_right h test model x o e right = subst (λ (c : Cell). IsRightCell h test model c) e right

-- ---- where every listed cell is settled

one_listed : (columns : List ColumnContent) (r : RowContent) (j : ℕ) (c : ColumnContent)
    → slice_get columns j ≡ Some c
    → cell_of_row columns (Some r) j ≡ Some (cell_with r.name c.name (outcome_at r.cells j))
one_listed columns r j c e =
    ap (λ (m : Option ColumnContent). row_cell r.name m (outcome_at r.cells j)) e

module _ (ops : List BoardOp) (legal : IsLegal ops) where
  abbrev b : BoardContent
  b = board_after ops

  abbrev h : TestsAndModels
  h = texts_after ops

  named : IsNamed b.rows b.columns h
  named = names_from ops no_board no_tests_or_models 0 legal (record { tests = refl; models = refl })

  listed : IsCountable b → (i j : ℕ) (r : RowContent) (c : ColumnContent)
      → slice_get b.rows i ≡ Some r → slice_get b.columns j ≡ Some c
      → slice_get (board_cells b) (i * length b.columns + j)
      ≡ Some (cell_with r.name c.name (outcome_at r.cells j))
  listed countable i j r c row column =
      ap (λ (cs : List (BoardCell Outcome)). slice_get cs (i * length b.columns + j))
      (are_all b countable)
      ∙ (all_get b.columns b.rows i j (below b.columns j c column)
      ∙ (ap (λ (q : Option RowContent). cell_of_row b.columns q j) row
      ∙ one_listed b.columns r j c column))

  pub settled_is_shown : SettledIsShown ops
  settled_is_shown countable settled test model both =
      let i : ℕ = row_index test b.rows in
      let j : ℕ = column_index model b.columns in
      let test_at : found (λ t. t.name) test h.tests ≡ i = sym (found_alike (λ r. r.name) (λ t. t.name) test b.rows h.tests named.tests) in
      let model_at : found (λ m. m.name) model h.models ≡ j = sym (found_alike (λ c. c.name) (λ m. m.name) model b.columns h.models named.models) in
      let r = there_alike (λ t. t.name) (λ r. r.name) h.tests b.rows i both.content (sym named.tests) (ap (slice_get h.tests) (sym test_at) ∙ both.test_is) in
      let c = there_alike (λ m. m.name) (λ c. c.name) h.models b.columns j both.under (sym named.models) (ap (slice_get h.models) (sym model_at) ∙ both.model_is) in
      let is = settled (i * length b.columns + j) (cell_with r.0.name c.0.name (outcome_at r.0.cells j)) (listed countable i j r.0 c.0 r.1 c.1) in
      let s = shown_there b i j r.0 r.1 is in (
        s.0,
        s.1,
        settled_right h test model (cell_named b test model) s.0 s.1
            (right_cell ops legal test model),
      )

-- ---- histories, whose boards a number of 64 bits counts

product_few : (n m : ℕ) → n ≤ 512 → m ≤ 16 → n * m < 2 ^ 64
product_few n m few_n few_m = let p = mul-le-mul_left n few_m in omega (arith, p, few_n)

history_is_countable : (ops : List BoardOp) → IsHistory ops → IsCountable (board_after ops)
history_is_countable ops history =
    let board : BoardContent = board_after ops in
    let texts : TestsAndModels = texts_after ops in
    let within = history_is_within ops history in
    let is_named : IsNamed board.rows board.columns texts = names_from ops no_board no_tests_or_models 0 history.0 (record { tests = refl; models = refl }) in
    let rows = as_many (λ r. r.name) (λ t. t.name) board.rows texts.tests is_named.tests in
    let columns = as_many (λ c. c.name) (λ m. m.name) board.columns texts.models is_named.models in
    product_few (length board.rows) (length board.columns)
    (subst (λ (k : ℕ). k ≤ 512) (sym rows) within.tests)
    (subst (λ (k : ℕ). k ≤ 16) (sym columns) within.models)

pub settled_history_is_shown : (ops : List BoardOp) → IsHistory ops
    → AreSettled (board_cells (board_after ops)) → ShowsEachResult ops
settled_history_is_shown ops history settled =
    settled_is_shown ops history.0 (history_is_countable ops history) settled

-- ---- a listed cell has a row and a column

pub record IsListed (columns : List ColumnContent) (rows : List RowContent) (cell : BoardCell Outcome)
    : Type 0 where
  pub i : ℕ
  pub j : ℕ
  pub row : RowContent
  pub column : ColumnContent
  pub row_there : slice_get rows i ≡ Some row
  pub column_there : slice_get columns j ≡ Some column
  pub test_is : row.name ≡ cell.test
  pub model_is : column.name ≡ cell.model
  pub outcome_is : outcome_at row.cells j ≡ cell.outcome

row_get : (test : List ℕ) (columns : List ColumnContent) (os : List (Option Outcome)) (j : ℕ)
    → slice_get (row_cells test columns os) j
    ≡ row_cell test (slice_get columns j) (outcome_at os j)
row_get test [] os j = refl
row_get test (c ∷ cs) [] zero = refl
row_get test (c ∷ cs) [] (suc j) = row_get test cs [] j
row_get test (c ∷ cs) (o ∷ os) zero = refl
row_get test (c ∷ cs) (o ∷ os) (suc j) = row_get test cs os j

in_row : (columns : List ColumnContent) (r : RowContent) (rs : List RowContent) (j : ℕ)
    (cell : BoardCell Outcome) (c : Option ColumnContent) → slice_get columns j ≡ c
    → row_cell r.name c (outcome_at r.cells j) ≡ Some cell → IsListed columns (r ∷ rs) cell
in_row columns r rs j cell None there e = absurd (none-some cell e)
in_row columns r rs j cell (Some c) there e =
    let same : cell_with r.name c.name (outcome_at r.cells j) ≡ cell = same_Some (cell_with r.name c.name (outcome_at r.cells j)) cell e in
    record {
      i = 0;
      j = j;
      row = r;
      column = c;
      row_there = refl;
      column_there = there;
      test_is = ap (λ (k : BoardCell Outcome). k.test) same;
      model_is = ap (λ (k : BoardCell Outcome). k.model) same;
      outcome_is = ap (λ (k : BoardCell Outcome). k.outcome) same;
    }

further : (columns : List ColumnContent) (r : RowContent) (rs : List RowContent)
    (cell : BoardCell Outcome) → IsListed columns rs cell → IsListed columns (r ∷ rs) cell
further columns r rs cell l = record {
  i = suc l.i;
  j = l.j;
  row = l.row;
  column = l.column;
  row_there = l.row_there;
  column_there = l.column_there;
  test_is = l.test_is;
  model_is = l.model_is;
  outcome_is = l.outcome_is;
}

split : (n k : ℕ) → n ≤ k → n + (k - n) ≡ k
split n k le = omega (arith, le)

pub located : (columns : List ColumnContent) (rows : List RowContent) (k : ℕ) (cell : BoardCell Outcome)
    → slice_get (all_cells columns rows) k ≡ Some cell → IsListed columns rows cell
located columns [] k cell e = absurd (none-some cell e)
located columns (r ∷ rs) k cell e = elim (cases_lt k (length (row_cells r.name columns r.cells))) [
  | inl lt ↦ in_row columns r rs k cell (slice_get columns k) refl
      (sym (row_get r.name columns r.cells k)
      ∙ (sym (get_left (row_cells r.name columns r.cells) (all_cells columns rs) k lt) ∙ e))
  | inr le ↦ further columns r rs cell (located columns rs
      (k - length (row_cells r.name columns r.cells)) cell
      (sym (get_right (row_cells r.name columns r.cells) (all_cells columns rs)
      (k - length (row_cells r.name columns r.cells)))
      ∙ (ap (slice_get (row_cells r.name columns r.cells ++ all_cells columns rs))
      (split (length (row_cells r.name columns r.cells)) k le) ∙ e)))
]

pub of_all : (cs : List (BoardCell Outcome)) (few : Bool) (k : ℕ) (cell : BoardCell Outcome)
    → slice_get (if few then cs else []) k ≡ Some cell → slice_get cs k ≡ Some cell
of_all cs true k cell e = e
of_all cs false k cell e = absurd (none-some cell e)

-- ---- what the bench shows is what the board shows

test_names : (ts : List Test) → map (λ t. t.name) ts ≡ map (λ c. c.name) (map content_of ts)
test_names [] = refl
test_names (t ∷ ts) = ap (λ (l : List (List ℕ)). t.name ∷ l) (test_names ts)

model_names : (ms : List NamedModel) → map (λ m. m.name) ms ≡ map (λ m. m.name) (map plain_model ms)
model_names [] = refl
model_names (m ∷ ms) = ap (λ (l : List (List ℕ)). m.name ∷ l) (model_names ms)

result_by : (h : TestsAndModels) (test model : List ℕ) (o : Outcome) (c : Option Test) (m : Option NamedModel)
    → test_by_name h test ≡ c → model_by_name h model ≡ m → scratch_by c m o → IsResultIn h test model o
result_by h test model o None m e f right = absurd right
result_by h test model o (Some c) None e f right = absurd right
result_by h test model o (Some c) (Some m) e f right =
    record { content = c; under = m; test_is = e; model_is = f; right = right }

module _ (t : StampedTexts) (ops : List BoardOp) (sound : AreSoundTexts t) (after : AreAfter t ops)
    (legal : IsLegal ops) where
  abbrev board : BoardContent
  board = board_after ops

  abbrev held : TestsAndModels
  held = texts_after ops

  abbrev tests : List Test
  tests = t.texts.tests.items

  abbrev models : List NamedModel
  models = t.texts.models.items

  tests_are : held.tests ≡ tests
  tests_are = ap (λ (g : TestsAndModels). g.tests) (sym after.held)

  models_are : held.models ≡ models
  models_are = ap (λ (g : TestsAndModels). g.models) (sym after.held)

  -- the index of a name is one, on the board and in the texts
  test_place : (test : List ℕ)
      → found (λ x. x.name) test held.tests ≡ test_index test (texts_of t.texts).tests
  test_place test =
      ap (found (λ x. x.name) test) tests_are
      ∙ found_alike (λ x. x.name) (λ c. c.name) test tests (map content_of tests)
      (test_names tests)

  model_place : (model : List ℕ)
      → found (λ x. x.name) model held.models ≡ model_index model (texts_of t.texts).models
  model_place model =
      ap (found (λ x. x.name) model) models_are
      ∙ found_alike (λ x. x.name) (λ m. m.name) model models (map plain_model models)
      (model_names models)

  result_of : (test model : List ℕ) (o : Outcome) → cell_from_scratch t test model o
      → IsResultIn held test model o
  result_of test model o right =
      result_by held test model o (test_of t test) (model_in t model)
      (ap (slice_get held.tests) (test_place test)
      ∙ ap (λ (l : List Test). slice_get l (test_index test (texts_of t.texts).tests))
      tests_are)
      (ap (slice_get held.models) (model_place model)
      ∙ ap
      (λ (l : List NamedModel).
      slice_get l (model_index model (texts_of t.texts).models)) models_are)
      right

  row_place : (test : List ℕ) (i : ℕ) (r : RowContent) → slice_get board.rows i ≡ Some r
      → r.name ≡ test → row_index test board.rows ≡ i
  row_place test i r there is =
      let x = same_name (λ r. r.name) (λ x. x.name) board.rows held.tests i r (after.names).tests there in
      let at : test_index test (texts_of t.texts).tests ≡ i =
      stands_there (λ (k : Content). k.name) content_of test tests i x.0 (tests_apart t sound)
      (ap (λ (l : List Test). slice_get l i) (sym tests_are) ∙ x.1) (x.2 ∙ is) in
      found_alike (λ r. r.name) (λ x. x.name) test board.rows held.tests (after.names).tests
      ∙ (test_place test ∙ at)

  column_place : (model : List ℕ) (j : ℕ) (c : ColumnContent) → slice_get board.columns j ≡ Some c
      → c.name ≡ model → column_index model board.columns ≡ j
  column_place model j c there is =
      let x = same_name (λ c. c.name) (λ x. x.name) board.columns held.models j c (after.names).models there in
      let at : model_index model (texts_of t.texts).models ≡ j =
      stands_there (λ (k : PlainModel). k.name) plain_model model models j x.0 (models_apart t sound)
      (ap (λ (l : List NamedModel). slice_get l j) (sym models_are) ∙ x.1) (x.2 ∙ is) in
      found_alike (λ c. c.name) (λ x. x.name) model board.columns held.models (after.names).models
      ∙ (model_place model ∙ at)

  pub posted_is_shown : PostedIsShown t ops
  posted_is_shown test model o right on =
      let few = nat_lt (length board.rows * length board.columns) (2 ^ 64) in
      let l = located board.columns board.rows on.index on.cell (of_all (all_cells board.columns board.rows) few on.index on.cell on.there) in
      let i : row_index test board.rows ≡ l.i = row_place test l.i l.row l.row_there (l.test_is ∙ on.test_is) in
      let j : column_index model board.columns ≡ l.j = column_place model l.j l.column l.column_there (l.model_is ∙ on.model_is) in
      let s = shown_there board l.i l.j l.row l.row_there (subst (λ (x : Option Outcome). IsSome x) (sym l.outcome_is) on.settled) in
      let seen : cell_named board test model ≡ Settled s.0 =
      ap (λ (n : ℕ). shown_cell (cell_at board.rows n (column_index model board.columns))) i
      ∙ (ap (λ (n : ℕ). shown_cell (cell_at board.rows l.i n)) j ∙ s.1) in
      let same : s.0 ≡ o =
      one_result held test model s.0 o
      (settled_right held test model (cell_named board test model) s.0 seen
      (right_cell ops legal test model))
      (result_of test model o right) in
      seen ∙ ap (λ (p : Outcome). Settled p) same
