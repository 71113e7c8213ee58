-- What an edit makes of a cell that is there before it and after it.
use Rattle.std.proofs.Common.{◌≡◌, ℕ, ◌<◌, ◌≤◌, ◌⊎◌, inl, inr, Bool, true, ◌&&◌, List, [], length, map, Option, Some, None, refl, sym, ap, subst, ◌∙◌, arith}
use Rattle.std.specs.Prelude.{slice_get, remove, fold, IsTrue, nat_lt, ◌==◌}
use Rattle.std.specs.Arc.{arc_value}
use Rattle.std.proofs.lemmas.Bool.{eqb-true}
use Rattle.text_values.specs.declared.test.Test.{Test}
use Rattle.outcome_states.specs.declared.answer.Outcome.{Outcome}
use Rattle.memo_core.specs.Lemmas.Equality.{and_true}
use Rattle.bench_texts.specs.declared.model.NamedModel.{NamedModel}
use Rattle.bench_texts.specs.declared.replacement.Replacement.{Replacement}
use Rattle.bench_texts.specs.declared.replacement.Replacement.TheVariants as made
use Rattle.bench_texts.specs.BenchTexts.{put_at}
use Rattle.bench_slices.specs.Reach.{cell_slice, is_of}
use Rattle.bench_text_laws.specs.Orderly.{AreApart}
use Rattle.board.specs.declared.operation.CellIndex.{CellIndex}
use Rattle.board.specs.declared.operation.NameChange.{NameChange}
use Rattle.board.specs.declared.operation.NameChange.TheVariants.{PutTest, DropTest, PutModel, DropModel}
use Rattle.board.specs.Contents.{RowContent, BoardContent, cell_at}
use Rattle.board.specs.Operations.{open_cell, rows_after}
use Rattle.board.specs.Legal.{TestsAndModels, tests_and_models_with, board_slice_after, IsCellReached, ListsReached, Announces}
use Rattle.board.proofs.Lookups.{skip, get_removed, placed, narrow_cell, dropped_row}
use Rattle.board.proofs.Names.{IsNamed, as_many}
use Rattle.board.proofs.ShownNames.{below}
use Rattle.board.proofs.Widths.{AreWide}
use Rattle.bench_laws.specs.Openings.{slice_named, test_at, model_at}
use Rattle.bench_laws.proofs.CellLists.{found_name, put_index, removed_index, skip_past, opened_other, opened_here, longer_same, wider_same, cell_missing}

-- the tests and the models have names of their own
pub record HasNamesApart (h : TestsAndModels) : Type 0 where
  pub tests : AreApart (map (λ t. t.name) h.tests)
  pub models : AreApart (map (λ m. m.name) h.models)

-- a test and a model of these names are there
pub record AreThere (h : TestsAndModels) (test model : List ℕ) : Type 0 where
  pub content : Test
  pub under : NamedModel
  pub test_is : slice_get h.tests (test_at h test) ≡ Some content
  pub model_is : slice_get h.models (model_at h model) ≡ Some under

-- where they stand after the edit, by where they stood: the slice by the indexes is the one by the
-- names, and the cell is that of before, unless it is opened
record IsMoved (h : TestsAndModels) (b : BoardContent) (change : NameChange) (r : Replacement)
    (test model : List ℕ) : Type 0 where
  slice_is : board_slice_after h r (test_at h test) (model_at h model)
      ≡ slice_named (tests_and_models_with r h) test model
  test_same : test_at (tests_and_models_with r h) test ≡ test_at h test
  model_same : model_at (tests_and_models_with r h) model ≡ model_at h model
  cell : cell_at (rows_after change b.columns b.rows) (test_at h test) (model_at h model)
      ≡ cell_at b.rows (test_at h test) (model_at h model)

module _ (h : TestsAndModels) (b : BoardContent) (named : IsNamed b.rows b.columns h)
    (wide : AreWide (length b.columns) b.rows) (test model : List ℕ) (was : AreThere h test model)
  where
    abbrev i : ℕ
    i = test_at h test

    abbrev j : ℕ
    j = model_at h model

    row_below : i < length b.rows
    row_below =
        let lt = below h.tests i was.content was.test_is in
        let many = as_many (λ r. r.name) (λ t. t.name) b.rows h.tests named.tests in
        omega (arith, lt, many)

    column_below : j < length b.columns
    column_below =
        let lt = below h.models j was.under was.model_is in
        let many = as_many (λ c. c.name) (λ m. m.name) b.columns h.models named.models in
        omega (arith, lt, many)

    test_name : (was.content).name ≡ test
    test_name = found_name (λ t. t.name) test h.tests was.content was.test_is

    model_name : (was.under).name ≡ model
    model_name = found_name (λ m. m.name) model h.models was.under was.model_is

    -- a test that is put
    test_moved : (index : ℕ) (new : Test) (at : ℕ) (name : _) → index ≤ length h.tests
        → HasNamesApart h → HasNamesApart (tests_and_models_with (made.PutTest index new) h)
        → AreThere (tests_and_models_with (made.PutTest index new) h) test model
        → IsMoved h b (PutTest at name) (made.PutTest index new) test model
    test_moved index new at name le before after now =
        let now_name : (now.content).name ≡ test = found_name (λ t. t.name) test (put_at index new h.tests) now.content now.test_is in
        let k : ℕ = test_at (tests_and_models_with (made.PutTest index new) h) test in
        let same : k ≡ i = put_index (λ t. t.name) h.tests index new i k was.content now.content le before.tests after.tests was.test_is now.test_is (test_name ∙ sym now_name) in
        record {
          slice_is =
              ap (λ (t : Option Test). cell_slice t (slice_get h.models j)) (sym (ap
              (λ (n : ℕ). slice_get (put_at index new h.tests) n) same ∙ placed new index
              h.tests i le));
          test_same = same;
          model_same = refl;
          cell =
              longer_same (nat_lt at (length b.rows)) (arc_value name) at b.columns b.rows i j
              row_below;
        }

    -- a model that is put
    model_moved : (index next : ℕ) (new : NamedModel) (at : ℕ) (name items : _)
        → index ≤ length h.models → HasNamesApart h
        → HasNamesApart (tests_and_models_with (made.PutModel index new next) h)
        → AreThere (tests_and_models_with (made.PutModel index new next) h) test model
        → IsMoved h b (PutModel at name items) (made.PutModel index new next) test model
    model_moved index next new at name items le before after now =
        let now_name : (now.under).name ≡ model = found_name (λ m. m.name) model (put_at index new h.models) now.under now.model_is in
        let k : ℕ = model_at (tests_and_models_with (made.PutModel index new next) h) model in
        let same : k ≡ j = put_index (λ m. m.name) h.models index new j k was.under now.under le before.models after.models was.model_is now.model_is (model_name ∙ sym now_name) in
        record {
          slice_is =
              ap (λ (m : Option NamedModel). cell_slice (slice_get h.tests i) m) (sym
              (ap (λ (n : ℕ). slice_get (put_at index new h.models) n) same ∙ placed new index
              h.models j le));
          test_same = refl;
          model_same = same;
          cell =
              wider_same (nat_lt at (length b.columns)) (length b.columns) b.rows i j wide
              column_below;
        }

    -- what is shown where the edit puts something
    abbrev ShownAfter : NameChange → List CellIndex → Replacement → Option (Option Outcome) → Type 0
    ShownAfter change cells r cell =
        cell_at (fold open_cell (rows_after change b.columns b.rows) cells)
        (test_at (tests_and_models_with r h) test) (model_at (tests_and_models_with r h) model) ≡ cell

    module _ (whole : Bool) (change : NameChange) (cells : List CellIndex) (r : Replacement)
        (lists : ListsReached h whole r cells) (moved : IsMoved h b change r test model) where
      abbrev here : CellIndex
      here = record { test = i; model = j }

      abbrev rows_now : List RowContent
      rows_now = fold open_cell (rows_after change b.columns b.rows) cells

      at_moved : (cell : Option (Option Outcome)) → cell_at rows_now i j ≡ cell
          → ShownAfter change cells r cell
      at_moved cell e =
          ap (λ (n : ℕ). cell_at rows_now n (model_at (tests_and_models_with r h) model)) moved.test_same
          ∙ (ap (λ (n : ℕ). cell_at rows_now i n) moved.model_same ∙ e)

      kept_put : (IsTrue (whole && is_of r i j) → ⊥)
          → slice_named h test model ≡ slice_named (tests_and_models_with r h) test model
          → ShownAfter change cells r (cell_at b.rows i j)
      kept_put part same =
          let not_reached : IsCellReached h whole r i j → ⊥ = elim [ inl put ↦ part put | inr differ ↦ differ (same ∙ sym moved.slice_is) ] in
          at_moved (cell_at b.rows i j) (opened_other cells (rows_after change b.columns b.rows)
          here
          (λ k. not_reached ((lists.exact here).0 k).1) ∙ moved.cell)

      opened_put : (x : Option Outcome) → cell_at b.rows i j ≡ Some x
          → i < length (tests_and_models_with r h).tests → j < length (tests_and_models_with r h).models
          → IsTrue (whole && is_of r i j)
          ⊎ (slice_named h test model ≡ slice_named (tests_and_models_with r h) test model → ⊥)
          → ShownAfter change cells r (Some None)
      opened_put x there test_lt model_lt reached =
          let is_reached : IsCellReached h whole r i j = elim reached [ inl put ↦ inl put | inr differ ↦ inr (λ same. differ (same ∙ moved.slice_is)) ] in
          at_moved (Some None) (opened_here cells (rows_after change b.columns b.rows) here x
          ((lists.exact here).1 ((test_lt, model_lt), is_reached)) (moved.cell ∙ there))

    -- ---- something is dropped

    test_dropped : (index : ℕ) → HasNamesApart h
        → AreThere (tests_and_models_with (made.DropTest index) h) test model
        → skip index (test_at (tests_and_models_with (made.DropTest index) h) test) ≡ i
    test_dropped index before now =
        let now_name : (now.content).name ≡ test = found_name (λ t. t.name) test (remove h.tests index) now.content now.test_is in
        removed_index (λ t. t.name) h.tests index i
        (test_at (tests_and_models_with (made.DropTest index) h) test)
        was.content now.content before.tests was.test_is now.test_is (test_name ∙ sym now_name)

    model_dropped : (index : ℕ) → HasNamesApart h
        → AreThere (tests_and_models_with (made.DropModel index) h) test model
        → skip index (model_at (tests_and_models_with (made.DropModel index) h) model) ≡ j
    model_dropped index before now =
        let now_name : (now.under).name ≡ model = found_name (λ m. m.name) model (remove h.models index) now.under now.model_is in
        removed_index (λ m. m.name) h.models index j
        (model_at (tests_and_models_with (made.DropModel index) h) model) was.under now.under before.models
        was.model_is now.model_is (model_name ∙ sym now_name)

    kept_test_drop : (at index : ℕ) (cells : List CellIndex) → at ≡ index → cells ≡ []
        → HasNamesApart h → AreThere (tests_and_models_with (made.DropTest index) h) test model
        → ShownAfter (DropTest at) cells (made.DropTest index) (cell_at b.rows i j)
    kept_test_drop at index cells same none before now =
        rw (none, same) (dropped_row index b.rows (test_at (tests_and_models_with (made.DropTest index) h) test)
        j
        ∙ ap (λ (n : ℕ). cell_at b.rows n j) (test_dropped index before now))

    kept_model_drop : (at index : ℕ) (cells : List CellIndex) → at ≡ index → cells ≡ []
        → HasNamesApart h → AreThere (tests_and_models_with (made.DropModel index) h) test model
        → ShownAfter (DropModel at) cells (made.DropModel index) (cell_at b.rows i j)
    kept_model_drop at index cells same none before now =
        rw (none, same) (narrow_cell index b.rows i
        (model_at (tests_and_models_with (made.DropModel index) h) model) ∙ ap
        (λ (n : ℕ). cell_at b.rows i n) (model_dropped index before now))

    -- ---- any edit

    pub kept_cell : (whole : Bool) (change : NameChange) (cells : List CellIndex) (r : Replacement)
        → Announces h whole change cells r → HasNamesApart h → HasNamesApart (tests_and_models_with r h)
        → AreThere (tests_and_models_with r h) test model
        → (IsTrue (whole && is_of r i j) → ⊥)
        → slice_named h test model ≡ slice_named (tests_and_models_with r h) test model
        → ShownAfter change cells r (cell_at b.rows i j)
    kept_cell whole (PutTest at name) cells (made.PutTest index new) a before after now part same =
        kept_put whole (PutTest at name) cells (made.PutTest index new) a.3
        (test_moved index new at name (omega (arith, a.0, a.1)) before after now) part same
    kept_cell whole (PutTest at name) cells (made.DropTest index) a before after now part same =
        absurd a
    kept_cell whole (PutTest at name) cells (made.PutModel index new next) a before after now part
        same = absurd a
    kept_cell whole (PutTest at name) cells (made.DropModel index) a before after now part same =
        absurd a
    kept_cell whole (DropTest at) cells (made.PutTest index new) a before after now part same =
        absurd a
    kept_cell whole (DropTest at) cells (made.DropTest index) a before after now part same =
        kept_test_drop at index cells a.0 a.2 before now
    kept_cell whole (DropTest at) cells (made.PutModel index new next) a before after now part same
        =
        absurd a
    kept_cell whole (DropTest at) cells (made.DropModel index) a before after now part same =
        absurd a
    kept_cell whole (PutModel at name items) cells (made.PutTest index new) a before after now part
        same = absurd a
    kept_cell whole (PutModel at name items) cells (made.DropTest index) a before after now part
        same = absurd a
    kept_cell whole (PutModel at name items) cells (made.PutModel index new next) a before after now
        part same =
        kept_put whole (PutModel at name items) cells (made.PutModel index new next) a.3
        (model_moved index next new at name items (omega (arith, a.0, a.1)) before after now) part
        same
    kept_cell whole (PutModel at name items) cells (made.DropModel index) a before after now part
        same = absurd a
    kept_cell whole (DropModel at) cells (made.PutTest index new) a before after now part same =
        absurd a
    kept_cell whole (DropModel at) cells (made.DropTest index) a before after now part same =
        absurd a
    kept_cell whole (DropModel at) cells (made.PutModel index new next) a before after now part same
        =
        absurd a
    kept_cell whole (DropModel at) cells (made.DropModel index) a before after now part same =
        kept_model_drop at index cells a.0 a.2 before now

    -- ---- an edit that reaches the cell

    cell_there : (x : Option (Option Outcome)) → cell_at b.rows i j ≡ x
        → (o : Option Outcome) × (cell_at b.rows i j ≡ Some o)
    cell_there (Some o) e = (o, e)
    cell_there None e =
        absurd (cell_missing (length b.columns) b.rows i j wide row_below column_below e)

    reached_whole : (whole same : Bool) → IsTrue (whole && same) → same ≡ true
    reached_whole whole same e = (and_true whole same e).1

    opened_test_drop : (whole : Bool) (index : ℕ) → HasNamesApart h
        → AreThere (tests_and_models_with (made.DropTest index) h) test model
        → IsTrue (whole && is_of (made.DropTest index) i j)
        ⊎ (slice_named h test model
        ≡ slice_named (tests_and_models_with (made.DropTest index) h) test model → ⊥) → ⊥
    opened_test_drop whole index before now reached =
        let k : ℕ = test_at (tests_and_models_with (made.DropTest index) h) test in
        let same : skip index k ≡ i = test_dropped index before now in
        elim reached [
          | inl put ↦ skip_past index k (same ∙ eqb-true i index
              (reached_whole whole (i == index) put))
          | inr differ ↦ differ (sym (ap (λ (t : Option Test). cell_slice t (slice_get h.models j))
              (get_removed h.tests index k ∙ ap (slice_get h.tests) same)))
        ]

    opened_model_drop : (whole : Bool) (index : ℕ) → HasNamesApart h
        → AreThere (tests_and_models_with (made.DropModel index) h) test model
        → IsTrue (whole && is_of (made.DropModel index) i j)
        ⊎ (slice_named h test model
        ≡ slice_named (tests_and_models_with (made.DropModel index) h) test model → ⊥) → ⊥
    opened_model_drop whole index before now reached =
        let k : ℕ = model_at (tests_and_models_with (made.DropModel index) h) model in
        let same : skip index k ≡ j = model_dropped index before now in
        elim reached [
          | inl put ↦ skip_past index k (same ∙ eqb-true j index
              (reached_whole whole (j == index) put))
          | inr differ ↦ differ (sym (ap
              (λ (m : Option NamedModel). cell_slice (slice_get h.tests i) m)
              (get_removed h.models index k ∙ ap (slice_get h.models) same)))
        ]

    opened_by_put : (whole : Bool) (change : NameChange) (cells : List CellIndex) (r : Replacement)
        → ListsReached h whole r cells → IsMoved h b change r test model
        → AreThere (tests_and_models_with r h) test model
        → IsTrue (whole && is_of r i j)
        ⊎ (slice_named h test model ≡ slice_named (tests_and_models_with r h) test model → ⊥)
        → ShownAfter change cells r (Some None)
    opened_by_put whole change cells r lists moved now reached =
        let there = cell_there (cell_at b.rows i j) refl in
        let test_lt = below (tests_and_models_with r h).tests (test_at (tests_and_models_with r h) test) now.content now.test_is in
        let model_lt = below (tests_and_models_with r h).models (model_at (tests_and_models_with r h) model) now.under now.model_is in
        opened_put whole change cells r lists moved there.0 there.1
        (subst (λ (n : ℕ). n < length (tests_and_models_with r h).tests) moved.test_same test_lt)
        (subst (λ (n : ℕ). n < length (tests_and_models_with r h).models) moved.model_same model_lt) reached

    pub reached_cell : (whole : Bool) (change : NameChange) (cells : List CellIndex)
        (r : Replacement)
        → Announces h whole change cells r → HasNamesApart h → HasNamesApart (tests_and_models_with r h)
        → AreThere (tests_and_models_with r h) test model
        → IsTrue (whole && is_of r i j)
        ⊎ (slice_named h test model ≡ slice_named (tests_and_models_with r h) test model → ⊥)
        → ShownAfter change cells r (Some None)
    reached_cell whole (PutTest at name) cells (made.PutTest index new) a before after now reached =
        opened_by_put whole (PutTest at name) cells (made.PutTest index new) a.3
        (test_moved index new at name (omega (arith, a.0, a.1)) before after now) now reached
    reached_cell whole (PutTest at name) cells (made.DropTest index) a before after now reached =
        absurd a
    reached_cell whole (PutTest at name) cells (made.PutModel index new next) a before after now
        reached = absurd a
    reached_cell whole (PutTest at name) cells (made.DropModel index) a before after now reached =
        absurd a
    reached_cell whole (DropTest at) cells (made.PutTest index new) a before after now reached =
        absurd a
    reached_cell whole (DropTest at) cells (made.DropTest index) a before after now reached =
        absurd (opened_test_drop whole index before now reached)
    reached_cell whole (DropTest at) cells (made.PutModel index new next) a before after now reached
        =
        absurd a
    reached_cell whole (DropTest at) cells (made.DropModel index) a before after now reached =
        absurd a
    reached_cell whole (PutModel at name items) cells (made.PutTest index new) a before after now
        reached = absurd a
    reached_cell whole (PutModel at name items) cells (made.DropTest index) a before after now
        reached = absurd a
    reached_cell whole (PutModel at name items) cells (made.PutModel index new next) a before after
        now reached =
        opened_by_put whole (PutModel at name items) cells (made.PutModel index new next) a.3
        (model_moved index next new at name items (omega (arith, a.0, a.1)) before after now) now
        reached
    reached_cell whole (PutModel at name items) cells (made.DropModel index) a before after now
        reached = absurd a
    reached_cell whole (DropModel at) cells (made.PutTest index new) a before after now reached =
        absurd a
    reached_cell whole (DropModel at) cells (made.DropTest index) a before after now reached =
        absurd a
    reached_cell whole (DropModel at) cells (made.PutModel index new next) a before after now
        reached = absurd a
    reached_cell whole (DropModel at) cells (made.DropModel index) a before after now reached =
        absurd (opened_model_drop whole index before now reached)
