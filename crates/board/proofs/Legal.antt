-- After legal operations, what a board shows is right.
use Rattle.std.proofs.Common.{◌≡◌, ℕ, ◌<◌, ◌≤◌, ◌⊎◌, inl, inr, List, [], ◌∷◌, ◌++◌, length, map, Option, Some, None, Bool, true, false, refl, sym, ap, ◌∙◌, subst, arith}
use Rattle.std.specs.Prelude.{slice_get, remove, fold, Contains, if◌then◌else◌, ◌==◌, nat_lt}
use Rattle.std.specs.Arc.{arc_value}
use Rattle.std.proofs.lemmas.Option.{none-some}
use Rattle.text_values.specs.declared.test.Test.{Test}
use Rattle.text_values.specs.TestValue.{content_of}
use Rattle.outcome_states.specs.declared.answer.Outcome.{Outcome}
use Rattle.bench_texts.specs.declared.model.NamedModel.{NamedModel}
use Rattle.bench_texts.specs.declared.replacement.Replacement.{Replacement}
use Rattle.bench_texts.specs.declared.replacement.Replacement.TheVariants as made
use Rattle.bench_texts.specs.BenchTexts.{changed_at, put_at}
use Rattle.bench_texts.specs.Held.{IsModelRead}
use Rattle.bench_texts.proofs.Lists.{length-changed_at, length-put_at, length-remove}
use Rattle.bench_slices.specs.Slices.{Slice, slice}
use Rattle.bench_slices.specs.Reach.{test_after, model_after, cell_slice}
use Rattle.board.specs.declared.operation.BoardOp.{BoardOp}
use Rattle.board.specs.declared.operation.BoardOp.TheVariants.{Edit, Settle}
use Rattle.board.specs.declared.operation.CellIndex.{CellIndex}
use Rattle.board.specs.declared.operation.NameChange.{NameChange}
use Rattle.board.specs.declared.operation.NameChange.TheVariants.{PutTest, DropTest, PutModel, DropModel}
use Rattle.board.specs.Contents.{RowContent, ColumnContent, BoardContent, cell_at}
use Rattle.board.specs.Operations.{with_cell, open_cell, rows_after, columns_after, after_operation, no_board, open_row, wider_row, narrower_row, renamed_row}
use Rattle.board.specs.Legal.{TestsAndModels, no_tests_or_models, tests_and_models_with, tests_and_models_after, number_after, board_slice_before, board_slice_after, Announces, IsRightAt, MayFollow, LegalFrom}
use Rattle.evaluation_laws.specs.SliceLaws.{SlicesDecide}
use Rattle.board.proofs.Lookups.{skip, get_removed, placed, count_put, put_cases, opened_cell, opened_count, narrow_cell, dropped_row, wider_cell, wider_count, narrow_count, longer_cell}

-- each model holds what its items are resolved to
abbrev AreRead : List NamedModel → Type 0
AreRead models = (j : ℕ) (model : NamedModel) → slice_get models j ≡ Some model → IsModelRead model

-- the board shows these texts, and what it shows as settled is right
pub record Fits (rows : List RowContent) (columns : List ColumnContent) (h : TestsAndModels) : Type 0 where
  pub rows_are : length rows ≡ length h.tests
  pub columns_are : length columns ≡ length h.models
  pub read : AreRead h.models
  pub right : (i j : ℕ) (o : Outcome) → cell_at rows i j ≡ Some (Some o) → IsRightAt h i j o

-- ---- a cell with one slice before and after

both_there : (s : Slice) (t : Option Test) (m : Option NamedModel) → Some s ≡ cell_slice t m
    → (test : Test) × (model : NamedModel) × (t ≡ Some test) × (m ≡ Some model)
    × (s ≡ slice (content_of test) model)
both_there s (Some t) (Some m) e = (t, m, refl, refl, (cc))
both_there s (Some t) None e = absurd (none-some s (sym e))
both_there s None m e = absurd (none-some s (sym e))

carried : SlicesDecide → (h new : TestsAndModels) (r : Replacement) (i j : ℕ) (o : Outcome) → AreRead h.models
    → AreRead new.models → slice_get new.tests i ≡ test_after r h.tests i
    → slice_get new.models j ≡ model_after r h.models j
    → board_slice_before h i j ≡ board_slice_after h r i j → IsRightAt h i j o → IsRightAt new i j o
carried decide h new r i j o read reads tests models same old =
    let before : cell_slice (slice_get h.tests i) (slice_get h.models j) ≡ Some (slice (content_of old.test) old.model) =
    ap (λ (t : Option Test). cell_slice t (slice_get h.models j)) old.test_there
    ∙ ap (λ (m : Option NamedModel). cell_slice (Some old.test) m) old.model_there in
    let there = both_there (slice (content_of old.test) old.model) (test_after r h.tests i) (model_after r h.models j) (sym before ∙ same) in
    record {
      test = there.0;
      model = there.1;
      test_there = tests ∙ there.2;
      model_there = models ∙ there.3;
      right =
          decide old.test there.0 old.model there.1 o (read j old.model old.model_there)
          (reads j there.1 (models ∙ there.3)) there.4 old.right;
    }

-- ---- edits

read_at : (b : Bool) (model m : NamedModel) (o : Option NamedModel) → IsModelRead model
    → (o ≡ Some m → IsModelRead m) → (if b then Some model else o) ≡ Some m → IsModelRead m
read_at true model m o read reads e =
    let same : model ≡ m = (cc) in subst (λ (n : NamedModel). IsModelRead n) same read
read_at false model m o read reads e = reads e

put_read : (model : NamedModel) (at : ℕ) (models : List NamedModel) → at ≤ length models
    → IsModelRead model → AreRead models → AreRead (put_at at model models)
put_read model at models le read reads j m e =
    read_at (j == at) model m (slice_get models j) read (reads j m)
    (sym (placed model at models j le) ∙ e)

remove_read : (at : ℕ) (models : List NamedModel) → AreRead models → AreRead (remove models at)
remove_read at models reads j m e = reads (skip at j) m (sym (get_removed models at j) ∙ e)

abbrev IsKept : TestsAndModels → Replacement → List CellIndex → Type 0
IsKept h r cells =
    (c : CellIndex) → (Contains cells c → ⊥)
    → board_slice_before h c.test c.model ≡ board_slice_after h r c.test c.model

module _ (decide : SlicesDecide) (h : TestsAndModels) (rows : List RowContent) (columns : List ColumnContent)
    (fits : Fits rows columns h) (cells : List CellIndex) where
  put_test_fits : (index : ℕ) (name : List ℕ) (test : Test) → index ≤ length h.tests
      → IsKept h (made.PutTest index test) cells
      → Fits
      (fold open_cell
      (if nat_lt index (length rows) then changed_at index (renamed_row name) rows
      else rows ++ open_row name columns ∷ []) cells) columns
      (tests_and_models_with (made.PutTest index test) h)
  put_test_fits index name test le kept =
      let named = changed_at index (renamed_row name) rows in
      let wide = if nat_lt index (length rows) then named else rows ++ open_row name columns ∷ [] in
      let count = opened_count cells wide ∙ count_put rows named (open_row name columns) index (length-changed_at (renamed_row name) rows index) (omega (arith, fits.rows_are)) in
      record {
        rows_are = omega (arith, count, fits.rows_are, length-put_at h.tests index test le);
        columns_are = fits.columns_are;
        read = fits.read;
        right = λ i j o e.
            let at : CellIndex = record { test = i; model = j } in
            let q = opened_cell cells wide at o e in
            let old = fits.right i j o (longer_cell (nat_lt index (length rows)) name index columns rows i j o q.0) in
            carried decide h (tests_and_models_with (made.PutTest index test) h) (made.PutTest index test) i j o
            fits.read fits.read (placed test index h.tests i le) refl (kept at q.1) old;
      }

  put_model_fits : (index next : ℕ) (new : ColumnContent) (model : NamedModel)
      → index ≤ length h.models → IsModelRead model → IsKept h (made.PutModel index model next) cells
      → Fits
      (fold open_cell (if nat_lt index (length columns) then rows else map wider_row rows)
      cells)
      (if nat_lt index (length columns) then changed_at index (λ _. new) columns
      else columns ++ new ∷ [])
      (tests_and_models_with (made.PutModel index model next) h)
  put_model_fits index next new model le read kept =
      let wide = if nat_lt index (length columns) then rows else map wider_row rows in
      let reads = put_read model index h.models le read fits.read in
      let count = count_put columns (changed_at index (λ _. new) columns) new index (length-changed_at (λ _. new) columns index) (omega (arith, fits.columns_are)) in
      record {
        rows_are =
            opened_count cells wide
            ∙ (wider_count (nat_lt index (length columns)) rows ∙ fits.rows_are);
        columns_are = omega (arith, count, fits.columns_are, length-put_at h.models index model le);
        read = reads;
        right = λ i j o e.
            let at : CellIndex = record { test = i; model = j } in
            let q = opened_cell cells wide at o e in
            let old = fits.right i j o (wider_cell (nat_lt index (length columns)) rows i j o q.0) in
            carried decide h (tests_and_models_with (made.PutModel index model next) h)
            (made.PutModel index model next) i j o fits.read reads refl
            (placed model index h.models j le) (kept at q.1) old;
      }

  drop_test_fits : (index : ℕ) → index < length h.tests
      → Fits (fold open_cell (remove rows index) cells) columns (tests_and_models_with (made.DropTest index) h)
  drop_test_fits index lt =
      let small : index < length rows = omega (arith, fits.rows_are) in
      record {
        rows_are =
            omega (
              arith,
              opened_count cells (remove rows index),
              fits.rows_are,
              length-remove rows index small,
              length-remove h.tests index lt,
            );
        columns_are = fits.columns_are;
        read = fits.read;
        right = λ i j o e.
            let at : CellIndex = record { test = i; model = j } in
            let q = opened_cell cells (remove rows index) at o e in
            let old = fits.right (skip index i) j o (sym (dropped_row index rows i j) ∙ q.0) in
            record { test = old.test; model = old.model; test_there = get_removed h.tests index i ∙ old.test_there; model_there = old.model_there; right = old.right };
      }

  drop_model_fits : (index : ℕ) → index < length h.models
      → Fits (fold open_cell (map (narrower_row index) rows) cells) (remove columns index)
      (tests_and_models_with (made.DropModel index) h)
  drop_model_fits index lt =
      let small : index < length columns = omega (arith, fits.columns_are) in
      record {
        rows_are =
            opened_count cells (map (narrower_row index) rows)
            ∙ (narrow_count index rows ∙ fits.rows_are);
        columns_are =
            omega (
              arith,
              fits.columns_are,
              length-remove columns index small,
              length-remove h.models index lt,
            );
        read = remove_read index h.models fits.read;
        right = λ i j o e.
            let at : CellIndex = record { test = i; model = j } in
            let q = opened_cell cells (map (narrower_row index) rows) at o e in
            let old = fits.right i (skip index j) o (sym (narrow_cell index rows i j) ∙ q.0) in
            record { test = old.test; model = old.model; test_there = old.test_there; model_there = get_removed h.models index j ∙ old.model_there; right = old.right };
      }

  edit_fits : (whole : Bool) (change : NameChange) (r : Replacement)
      → Announces h whole change cells r
      → Fits (fold open_cell (rows_after change columns rows) cells) (columns_after change columns)
      (tests_and_models_with r h)
  edit_fits whole (PutTest at name) (made.PutTest index test) a =
      let le : at ≤ length h.tests = a.1 in
      subst
      (λ (n : ℕ). Fits (fold open_cell (rows_after (PutTest n name) columns rows) cells) columns
      (tests_and_models_with (made.PutTest index test) h))
      (sym a.0)
      (put_test_fits index (arc_value name) test (subst (λ (n : ℕ). n ≤ length h.tests) a.0 le)
      a.3.kept)
  edit_fits whole (PutTest at name) (made.DropTest index) a = absurd a
  edit_fits whole (PutTest at name) (made.PutModel index model next) a = absurd a
  edit_fits whole (PutTest at name) (made.DropModel index) a = absurd a
  edit_fits whole (DropTest at) (made.PutTest index test) a = absurd a
  edit_fits whole (DropTest at) (made.DropTest index) a =
      subst
      (λ (n : ℕ). Fits (fold open_cell (remove rows n) cells) columns
      (tests_and_models_with (made.DropTest index) h))
      (sym a.0)
      (drop_test_fits index (subst (λ (n : ℕ). n < length h.tests) a.0 a.1))
  edit_fits whole (DropTest at) (made.PutModel index model next) a = absurd a
  edit_fits whole (DropTest at) (made.DropModel index) a = absurd a
  edit_fits whole (PutModel at name items) (made.PutTest index test) a = absurd a
  edit_fits whole (PutModel at name items) (made.DropTest index) a = absurd a
  edit_fits whole (PutModel at name items) (made.PutModel index model next) a =
      subst
      (λ (n : ℕ). Fits (fold open_cell (rows_after (PutModel n name items) columns rows) cells)
      (columns_after (PutModel n name items) columns)
      (tests_and_models_with (made.PutModel index model next) h))
      (sym a.0)
      (put_model_fits index next (record { name = arc_value name; items = (arc_value items).items })
      model (subst (λ (n : ℕ). n ≤ length h.models) a.0 a.1) a.5 a.3.kept)
  edit_fits whole (PutModel at name items) (made.DropModel index) a = absurd a
  edit_fits whole (DropModel at) (made.PutTest index test) a = absurd a
  edit_fits whole (DropModel at) (made.DropTest index) a = absurd a
  edit_fits whole (DropModel at) (made.PutModel index model next) a = absurd a
  edit_fits whole (DropModel at) (made.DropModel index) a =
      subst
      (λ (n : ℕ). Fits (fold open_cell (map (narrower_row n) rows) cells) (remove columns n)
      (tests_and_models_with (made.DropModel index) h))
      (sym a.0)
      (drop_model_fits index (subst (λ (n : ℕ). n < length h.models) a.0 a.1))

-- ---- lists of operations

settle_right : (h : TestsAndModels) (at : CellIndex) (outcome : Outcome) (i j : ℕ) (o : Outcome) (P : Type 0)
    → IsRightAt h at.test at.model outcome → (P → IsRightAt h i j o)
    → ((i ≡ at.test) × (j ≡ at.model) × (Some o ≡ Some outcome)) ⊎ P → IsRightAt h i j o
settle_right h at outcome i j o P new old (inl e) =
    let same : o ≡ outcome = (let f : Some o ≡ Some outcome = e.2 in cc) in
    subst (λ (k : ℕ). IsRightAt h k j o) (sym e.0) (subst (λ (k : ℕ). IsRightAt h at.test k o)
    (sym e.1) (subst (λ (x : Outcome). IsRightAt h at.test at.model x) (sym same) new))
settle_right h at outcome i j o P new old (inr p) = old p

step : SlicesDecide → (b : BoardContent) (h : TestsAndModels) (last : ℕ) (op : BoardOp) → MayFollow h last op
    → Fits b.rows b.columns h
    → Fits (after_operation b op).rows (after_operation b op).columns (tests_and_models_after h op)
step decide b h last (Edit edit) may fits =
    edit_fits decide h b.rows b.columns fits edit.reached.items edit.prepared.value.whole
    edit.change edit.prepared.value.replacement may.1
step decide b h last (Settle at outcome) may fits = record {
  rows_are =
      length-changed_at (with_cell at.model (Some (arc_value outcome))) b.rows at.test
      ∙ fits.rows_are;
  columns_are = fits.columns_are;
  read = fits.read;
  right =
      λ i j o e. settle_right h at (arc_value outcome) i j o (cell_at b.rows i j ≡ Some (Some o))
      may (fits.right i j o) (put_cases at.model (Some (arc_value outcome)) at.test b.rows i j
      (Some o) e);
}

legal : SlicesDecide → (ops : List BoardOp) (b : BoardContent) (h : TestsAndModels) (last : ℕ)
    → LegalFrom h last ops → Fits b.rows b.columns h
    → Fits (fold after_operation b ops).rows (fold after_operation b ops).columns
    (fold tests_and_models_after h ops)
legal decide [] b h last l fits = fits
legal decide (op ∷ ops) b h last l fits =
    legal decide ops (after_operation b op) (tests_and_models_after h op) (number_after last op) l.1
    (step decide b h last op l.0 fits)

nothing_fits : Fits [] [] no_tests_or_models
nothing_fits =
    record {
      rows_are = refl;
      columns_are = refl;
      read = λ j m e. absurd (none-some m e);
      right = λ i j o e. absurd (none-some (Some o) e);
    }

pub legal_is_right : SlicesDecide → (ops : List BoardOp) → LegalFrom no_tests_or_models 0 ops
    → (i j : ℕ) (o : Outcome) → cell_at (fold after_operation no_board ops).rows i j ≡ Some (Some o)
    → IsRightAt (fold tests_and_models_after no_tests_or_models ops) i j o
legal_is_right decide ops l = (legal decide ops no_board no_tests_or_models 0 l nothing_fits).right
