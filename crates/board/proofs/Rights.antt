-- After legal operations each cell is right for the texts after them.
use Rattle.std.proofs.Common.{◌≡◌, ℕ, inl, inr, List, length, Option, Some, None, refl, sym, ap, ◌∙◌, subst, arith}
use Rattle.std.specs.Prelude.{slice_get}
use Rattle.std.proofs.lemmas.Option.{same_Some, slice_get_past}
use Rattle.text_values.specs.declared.test.Test.{Test}
use Rattle.outcome_states.specs.declared.answer.Outcome.{Outcome}
use Rattle.bench_texts.specs.declared.model.NamedModel.{NamedModel}
use Rattle.from_scratch.specs.FromScratch.{IsFromScratch}
use Rattle.evaluation_laws.proofs.Saying.{one_outcome}
use Rattle.evaluation_laws.proofs.Deciding.{decide}
use Rattle.evaluation_laws.proofs.SliceModels.{items_suffice}
use Rattle.board.specs.declared.operation.BoardOp.{BoardOp}
use Rattle.board.specs.Contents.{RowContent, ColumnContent, BoardContent, row_index, column_index, cells_of, shown_cell, cell_named}
use Rattle.board.specs.Operations.{no_board, board_after}
use Rattle.board.specs.Legal.{TestsAndModels, no_tests_or_models, IsLegal, IsRightAt, texts_after}
use Rattle.board.proofs.Legal.{legal_is_right}
use Rattle.board.proofs.Names.{IsNamed, names_from}
use Rattle.board.specs.Results.{HasBoth, IsResultIn, IsRightCell}
use Rattle.board.proofs.ShownNames.{found, found_alike, none_alike, there_alike, below, past}
use Rattle.board.proofs.Widths.{AreWide, wide_at, wide_from}

-- ---- what is at an index

pub one_result : (h : TestsAndModels) (test model : List ℕ) (o p : Outcome) → IsResultIn h test model o
    → IsResultIn h test model p → o ≡ p
one_result h test model o p a b =
    let same_test : b.content ≡ a.content = same_Some b.content a.content (sym b.test_is ∙ a.test_is) in
    let same_model : b.under ≡ a.under = same_Some b.under a.under (sym b.model_is ∙ a.model_is) in
    one_outcome a.content a.under.text o p a.right
    (subst (λ (c : Test). IsFromScratch c a.under.text p) same_test (subst
    (λ (m : NamedModel). IsFromScratch b.content m.text p) same_model b.right))

module _ (ops : List BoardOp) (legal : IsLegal ops) (test model : List ℕ) where
  abbrev b : BoardContent
  b = board_after ops

  abbrev h : TestsAndModels
  h = texts_after ops

  abbrev i : ℕ
  i = row_index test b.rows

  abbrev j : ℕ
  j = column_index model b.columns

  named : IsNamed b.rows b.columns h
  named = names_from ops no_board no_tests_or_models 0 legal (record { tests = refl; models = refl })

  wide : AreWide (length b.columns) b.rows
  wide = wide_from ops no_board tt

  test_at : found (λ t. t.name) test h.tests ≡ i
  test_at = sym (found_alike (λ r. r.name) (λ t. t.name) test b.rows h.tests named.tests)

  model_at : found (λ m. m.name) model h.models ≡ j
  model_at = sym (found_alike (λ c. c.name) (λ m. m.name) model b.columns h.models named.models)

  both : (r : RowContent) (c : ColumnContent) → slice_get b.rows i ≡ Some r
      → slice_get b.columns j ≡ Some c → HasBoth h test model
  both r c row column =
      let t = there_alike (λ r. r.name) (λ t. t.name) b.rows h.tests i r named.tests row in
      let m = there_alike (λ c. c.name) (λ m. m.name) b.columns h.models j c named.models column in
      record { content = t.0; under = m.0; test_is = ap (slice_get h.tests) test_at ∙ t.1; model_is = ap (slice_get h.models) model_at ∙ m.1 }

  result : (o : Outcome) → IsRightAt h i j o → IsResultIn h test model o
  result o a = record {
    content = a.test;
    under = a.model;
    test_is = ap (slice_get h.tests) test_at ∙ a.test_there;
    model_is = ap (slice_get h.models) model_at ∙ a.model_there;
    right = a.right;
  }

  by_cell : (r : RowContent) (c : ColumnContent) → slice_get b.rows i ≡ Some r
      → slice_get b.columns j ≡ Some c → (x : Option (Option Outcome)) → slice_get r.cells j ≡ x
      → IsRightCell h test model (shown_cell x)
  by_cell r c row column None e =
      let short = past r.cells j e in
      let long = below b.columns j c column in
      absurd (omega (arith, short, long, wide_at (length b.columns) b.rows i r wide row))
  by_cell r c row column (Some None) e = both r c row column
  by_cell r c row column (Some (Some o)) e =
      result o (legal_is_right (items_suffice decide) ops legal i j o (ap
      (λ (q : Option RowContent). slice_get (cells_of q) j) row ∙ e))

  by_column : (r : RowContent) → slice_get b.rows i ≡ Some r → (c : Option ColumnContent)
      → slice_get b.columns j ≡ c → IsRightCell h test model (shown_cell (slice_get r.cells j))
  by_column r row None e =
      let long = past b.columns j e in
      let missing : slice_get r.cells j ≡ None = slice_get_past r.cells j (omega (arith, long, wide_at (length b.columns) b.rows i r wide row)) in
      subst (λ (x : Option (Option Outcome)). IsRightCell h test model (shown_cell x)) (sym missing)
      (inr (ap (slice_get h.models) model_at
      ∙ none_alike (λ c. c.name) (λ m. m.name) b.columns h.models j named.models e))
  by_column r row (Some c) e = by_cell r c row e (slice_get r.cells j) refl

  by_row : (r : Option RowContent) → slice_get b.rows i ≡ r
      → IsRightCell h test model (shown_cell (slice_get (cells_of r) j))
  by_row None e =
      inl (ap (slice_get h.tests) test_at
      ∙ none_alike (λ r. r.name) (λ t. t.name) b.rows h.tests i named.tests e)
  by_row (Some r) e = by_column r e (slice_get b.columns j) refl

  pub right_cell : IsRightCell h test model (cell_named b test model)
  right_cell = by_row (slice_get b.rows i) refl
