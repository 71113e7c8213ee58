-- An edit opens the cells that it reaches and leaves each other as it is shown.
use Rattle.std.proofs.Common.{◌≡◌, ℕ, ◌⊎◌, inl, inr, false, List, [], ◌∷◌, ◌++◌, length, map, Option, Some, None, refl, sym, ap, subst, ◌∙◌}
use Rattle.std.specs.Cmp.Derive.{both_true}
use Rattle.std.specs.Prelude.{slice_get, fold, IsTrue, ◌&&◌}
use Rattle.std.proofs.lemmas.Option.{none-some}
use Rattle.text_values.specs.declared.test.Test.{Test}
use Rattle.outcome_texts.specs.Cells.{Cell, NoCell, Open, Settled}
use Rattle.memo_core.specs.Lemmas.Equality.{and_true}
use Rattle.bench_texts.specs.declared.model.NamedModel.{NamedModel}
use Rattle.bench_texts.specs.declared.replacement.Replacement.{Replacement}
use Rattle.bench_texts.specs.BenchTexts.{BenchTexts, no_texts}
use Rattle.bench_slices.specs.Reach.{cell_slice, is_of}
use Rattle.bench_slices.specs.Slices.{Slice}
use Rattle.bench_text_laws.specs.Orderly.{AreApart, IsOrderly}
use Rattle.bench_text_laws.proofs.Orderly.{applied_orderly}
use Rattle.board.specs.declared.operation.BoardEdit.{BoardEdit}
use Rattle.board.specs.declared.operation.BoardOp.{BoardOp}
use Rattle.board.specs.declared.operation.BoardOp.TheVariants.{Edit, Settle}
use Rattle.board.specs.Contents.{RowContent, BoardContent, cell_at, shown_cell, cell_named}
use Rattle.board.specs.Operations.{open_cell, rows_after, after_operation, no_board, board_after}
use Rattle.board.specs.Legal.{TestsAndModels, no_tests_or_models, tests_and_models_with, tests_and_models_after, number_after, texts_after, Announces, MayFollow, LegalFrom, IsLegal}
use Rattle.board.specs.Histories.{contents_with, contents_after, IsContentOf, IsMadeOn, AreMadeFrom, IsHistory}
use Rattle.board.specs.Results.{test_by_name, model_by_name, HasBoth, LacksOne, IsRightCell}
use Rattle.board.proofs.Histories.{contents_are_those}
use Rattle.board.proofs.Names.{IsNamed, names_from, beginning_is_legal}
use Rattle.board.proofs.Rights.{right_cell}
use Rattle.board.proofs.ShownNames.{found, found_alike}
use Rattle.board.proofs.Widths.{AreWide, wide_from}
use Rattle.bench_laws.specs.Openings.{slice_named, test_at, model_at, IsPutWhole, with_edit, KeepsUnreached, OpensReached}
use Rattle.bench_laws.proofs.There.{test_names, model_names}
use Rattle.bench_laws.proofs.NewCells.{HeldKept, held_kept, applied_kept, added_cell}
use Rattle.bench_laws.proofs.ReachedCells.{HasNamesApart, AreThere, kept_cell, reached_cell}

-- ---- lists of operations

pub fold_last : {A S : Type 0} (f : S → A → S) (xs : List A) (x : A) (s : S)
    → fold f s (xs ++ x ∷ []) ≡ f (fold f s xs) x
fold_last f [] x s = refl
fold_last f (y ∷ ys) x s = fold_last f ys x (f s y)

last_may : (ops : List BoardOp) (op : BoardOp) (h : TestsAndModels) (last : ℕ)
    → LegalFrom h last (ops ++ op ∷ [])
    → MayFollow (fold tests_and_models_after h ops) (fold number_after last ops) op
last_may [] op h last l = l.0
last_may (o ∷ ops) op h last l = last_may ops op (tests_and_models_after h o) (number_after last o) l.1

last_made : (ops : List BoardOp) (op : BoardOp) (t : BenchTexts) → AreMadeFrom t (ops ++ op ∷ [])
    → IsMadeOn (fold contents_with t ops) op
last_made [] op t m = m.0
last_made (o ∷ ops) op t m = last_made ops op (contents_with t o) m.1

pub made_beginning : (ops others : List BoardOp) (t : BenchTexts) → AreMadeFrom t (ops ++ others)
    → AreMadeFrom t ops
made_beginning [] others t m = tt
made_beginning (op ∷ ops) others t m = (m.0, made_beginning ops others (contents_with t op) m.1)

orderly_with : (t : BenchTexts) (op : BoardOp) → IsOrderly t → IsMadeOn t op
    → IsOrderly (contents_with t op)
orderly_with t (Edit edit) orderly made =
    applied_orderly t (contents_with t (Edit edit)) false made.0 orderly made.1.applies
orderly_with t (Settle at outcome) orderly made = orderly

orderly_from : (ops : List BoardOp) (t : BenchTexts) → IsOrderly t → AreMadeFrom t ops
    → IsOrderly (fold contents_with t ops)
orderly_from [] t orderly made = orderly
orderly_from (op ∷ ops) t orderly made =
    orderly_from ops (contents_with t op) (orderly_with t op orderly made.0) made.1

no_orderly : IsOrderly no_texts
no_orderly = record { tests = tt; models = tt; items = tt; next = λ n h. absurd h }

names_apart : (ops : List BoardOp) → AreMadeFrom no_texts ops → HasNamesApart (texts_after ops)
names_apart ops made =
    let orderly = orderly_from ops no_texts no_orderly made in
    let same = contents_are_those ops in
    let h : TestsAndModels = texts_after ops in
    record {
      tests =
          subst (λ (l : List (List ℕ)). AreApart l)
          (ap (map (λ c. c.name)) same.tests ∙ sym (test_names h.tests)) orderly.tests;
      models =
          subst (λ (l : List (List ℕ)). AreApart l)
          (ap (map (λ m. m.name)) same.models ∙ sym (model_names h.models)) orderly.models;
    }

-- ---- edits of a whole test or model

-- the operation says so of its edit
abbrev IsSaidWhole : TestsAndModels → BoardEdit → (test model : List ℕ) → Type 0
IsSaidWhole h edit test model =
    IsTrue (edit.prepared.value.whole
    && is_of edit.prepared.value.replacement (test_at h test) (model_at h model))

-- it says what is so
put_whole : (ops : List BoardOp) (edit : BoardEdit) (test model : List ℕ)
    → IsMadeOn (contents_after ops) (Edit edit) → IsSaidWhole (texts_after ops) edit test model
    → IsPutWhole ops edit test model
put_whole ops edit test model made said =
    let h : TestsAndModels = texts_after ops in
    let parts = and_true edit.prepared.value.whole (is_of edit.prepared.value.replacement (test_at h test) (model_at h model)) said in
    record { made = made.0; is_made = made.1; whole = sym made.1.whole ∙ parts.0; of_cell = parts.1 }

said_whole : (ops : List BoardOp) (edit : BoardEdit) (test model : List ℕ)
    → IsPutWhole ops edit test model → IsSaidWhole (texts_after ops) edit test model
said_whole ops edit test model put = both_true ((put.is_made).whole ∙ put.whole) put.of_cell

-- ---- cells that are shown

none_shown : (h : TestsAndModels) (test model : List ℕ) (cell : Cell) → IsRightCell h test model cell
    → LacksOne h test model → cell ≡ NoCell
none_shown h test model NoCell right lacks = refl
none_shown h test model Open right lacks =
    absurd (elim lacks [
      | inl none ↦ none-some right.content (sym none ∙ right.test_is)
      | inr none ↦
          none-some right.under (sym none ∙ right.model_is)
    ])
none_shown h test model (Settled o) right lacks =
    absurd (elim lacks [
      | inl none ↦ none-some right.content (sym none ∙ right.test_is)
      | inr none ↦
          none-some right.under (sym none ∙ right.model_is)
    ])

-- a cell without a slice lacks its test or its model, and one with a slice has both
lacks_by : (c : Option Test) (m : Option NamedModel) → cell_slice c m ≡ None
    → (c ≡ None) ⊎ (m ≡ None)
lacks_by None m e = inl refl
lacks_by (Some c) None e = inr refl
lacks_by (Some c) (Some m) e = absurd (none-some _ (sym e))

there_by : (h : TestsAndModels) (test model : List ℕ) (c : Option Test) (m : Option NamedModel) (s : Slice)
    → slice_get h.tests (test_at h test) ≡ c → slice_get h.models (model_at h model) ≡ m
    → cell_slice c m ≡ Some s → AreThere h test model
there_by h test model None m s e f is = absurd (none-some s is)
there_by h test model (Some c) None s e f is = absurd (none-some s is)
there_by h test model (Some c) (Some m) s e f is =
    record { content = c; under = m; test_is = e; model_is = f }

both_there : (h : TestsAndModels) (test model : List ℕ) → HasBoth h test model → AreThere h test model
both_there h test model both =
    record {
      content = both.content;
      under = both.under;
      test_is = both.test_is;
      model_is = both.model_is;
    }

pub shown_at : (h : TestsAndModels) (b : BoardContent) (named : IsNamed b.rows b.columns h)
    (test model : List ℕ)
    → cell_named b test model ≡ shown_cell (cell_at b.rows (test_at h test) (model_at h model))
shown_at h b named test model =
    ap (λ (n : ℕ). shown_cell (cell_at b.rows n (found (λ c. c.name) model b.columns)))
    (found_alike (λ r. r.name) (λ t. t.name) test b.rows h.tests named.tests)
    ∙ ap (λ (n : ℕ). shown_cell (cell_at b.rows (test_at h test) n)) (found_alike (λ c. c.name)
    (λ m. m.name) model b.columns h.models named.models)

pub named_after : (ops : List BoardOp) → IsLegal ops
    → IsNamed (board_after ops).rows (board_after ops).columns (texts_after ops)
named_after ops legal =
    names_from ops no_board no_tests_or_models 0 legal (record { tests = refl; models = refl })

module _ (ops : List BoardOp) (edit : BoardEdit) (history : IsHistory (with_edit ops edit))
    (test model : List ℕ) where
  abbrev h : TestsAndModels
  h = texts_after ops

  abbrev b : BoardContent
  b = board_after ops

  abbrev r : Replacement
  r = edit.prepared.value.replacement

  abbrev rows_later : List RowContent
  rows_later = fold open_cell (rows_after edit.change b.columns b.rows) edit.reached.items

  legal : IsLegal ops
  legal = beginning_is_legal ops (Edit edit ∷ []) no_tests_or_models 0 history.0

  texts_are : texts_after (with_edit ops edit) ≡ tests_and_models_with r h
  texts_are = fold_last tests_and_models_after ops (Edit edit) no_tests_or_models

  board_is : board_after (with_edit ops edit) ≡ after_operation b (Edit edit)
  board_is = fold_last after_operation ops (Edit edit) no_board

  announces : Announces h edit.prepared.value.whole edit.change edit.reached.items r
  announces = (last_may ops (Edit edit) no_tests_or_models 0 history.0).1

  apart_before : HasNamesApart h
  apart_before = names_apart ops (made_beginning ops (Edit edit ∷ []) no_texts history.1)

  apart_later : HasNamesApart (tests_and_models_with r h)
  apart_later = subst HasNamesApart texts_are (names_apart (with_edit ops edit) history.1)

  wide : AreWide (length b.columns) b.rows
  wide = wide_from ops no_board tt

  shown_later : cell_named (board_after (with_edit ops edit)) test model
      ≡ shown_cell (cell_at rows_later (test_at (tests_and_models_with r h) test)
      (model_at (tests_and_models_with r h) model))
  shown_later =
      shown_at (texts_after (with_edit ops edit)) (board_after (with_edit ops edit))
      (named_after (with_edit ops edit) history.0) test model
      ∙ (ap
      (λ (c : BoardContent). shown_cell (cell_at c.rows
      (test_at (texts_after (with_edit ops edit)) test)
      (model_at (texts_after (with_edit ops edit)) model))) board_is
      ∙ ap (λ (g : TestsAndModels). shown_cell (cell_at rows_later (test_at g test) (model_at g model)))
      texts_are)

  kept_there : (s : Slice) → slice_named h test model ≡ Some s
      → slice_named h test model ≡ slice_named (texts_after (with_edit ops edit)) test model
      → (IsSaidWhole h edit test model → ⊥)
      → cell_named (board_after (with_edit ops edit)) test model ≡ cell_named b test model
  kept_there s is same part =
      let was = there_by h test model (test_by_name h test) (model_by_name h model) s refl refl is in
      let later : slice_named h test model ≡ slice_named (tests_and_models_with r h) test model = subst (λ (g : TestsAndModels). slice_named h test model ≡ slice_named g test model) texts_are same in
      let now = there_by (tests_and_models_with r h) test model (test_by_name (tests_and_models_with r h) test) (model_by_name (tests_and_models_with r h) model) s refl refl (sym later ∙ is) in
      let cell = kept_cell h b (named_after ops legal) wide test model was edit.prepared.value.whole edit.change edit.reached.items r announces apart_before apart_later now part later in
      shown_later ∙ (ap shown_cell cell ∙ sym (shown_at h b (named_after ops legal) test model))

  kept_none : slice_named h test model ≡ None
      → slice_named h test model ≡ slice_named (texts_after (with_edit ops edit)) test model
      → cell_named (board_after (with_edit ops edit)) test model ≡ cell_named b test model
  kept_none is same =
      let before = none_shown h test model (cell_named b test model) (right_cell ops legal test model) (lacks_by (test_by_name h test) (model_by_name h model) is) in
      let g : TestsAndModels = texts_after (with_edit ops edit) in
      let after = none_shown g test model (cell_named (board_after (with_edit ops edit)) test model) (right_cell (with_edit ops edit) history.0 test model) (lacks_by (test_by_name g test) (model_by_name g model) (sym same ∙ is)) in
      after ∙ sym before

  kept_by : (s : Option Slice) → slice_named h test model ≡ s
      → slice_named h test model ≡ slice_named (texts_after (with_edit ops edit)) test model
      → (IsSaidWhole h edit test model → ⊥)
      → cell_named (board_after (with_edit ops edit)) test model ≡ cell_named b test model
  kept_by None is same part = kept_none is same
  kept_by (Some s) is same part = kept_there s is same part

  now_there : HasBoth (texts_after (with_edit ops edit)) test model
      → AreThere (tests_and_models_with r h) test model
  now_there after =
      subst (λ (g : TestsAndModels). AreThere g test model) texts_are (both_there
      (texts_after (with_edit ops edit)) test model after)

  names_kept : HeldKept h (tests_and_models_with r h)
  names_kept =
      let made = last_made ops (Edit edit) no_texts history.1 in
      let was = contents_are_those ops in
      let now = contents_are_those (with_edit ops edit) in
      let contents : contents_after (with_edit ops edit) ≡ contents_with (contents_after ops) (Edit edit) = fold_last contents_with ops (Edit edit) no_texts in
      let are : IsContentOf (contents_with (contents_after ops) (Edit edit)) (texts_after (with_edit ops edit)) = subst (λ (t : BenchTexts). IsContentOf t (texts_after (with_edit ops edit))) contents now in
      subst (λ (g : TestsAndModels). HeldKept h g) texts_are
      (held_kept (contents_after ops) (contents_with (contents_after ops) (Edit edit)) h
      (texts_after (with_edit ops edit)) was are
      (applied_kept (contents_after ops) (contents_with (contents_after ops) (Edit edit)) made.0
      made.1.applies))

  -- a cell that the edit adds, and one that it reaches
  opened_none : slice_named h test model ≡ None
      → HasBoth (texts_after (with_edit ops edit)) test model
      → cell_named (board_after (with_edit ops edit)) test model ≡ Open
  opened_none is after =
      let lacks = lacks_by (test_by_name h test) (model_by_name h model) is in
      let cell = added_cell h b (named_after ops legal) wide test model lacks edit.prepared.value.whole edit.change edit.reached.items r announces names_kept (now_there after) in
      shown_later ∙ ap shown_cell cell

  opened_there : (s : Slice) → slice_named h test model ≡ Some s
      → HasBoth (texts_after (with_edit ops edit)) test model
      → IsSaidWhole h edit test model
      ⊎ (slice_named h test model
      ≡ slice_named (texts_after (with_edit ops edit)) test model → ⊥)
      → cell_named (board_after (with_edit ops edit)) test model ≡ Open
  opened_there s is after reached =
      let was = there_by h test model (test_by_name h test) (model_by_name h model) s refl refl is in
      let later = subst (λ (g : TestsAndModels). IsSaidWhole h edit test model ⊎ (slice_named h test model ≡ slice_named g test model → ⊥)) texts_are reached in
      let cell = reached_cell h b (named_after ops legal) wide test model was edit.prepared.value.whole edit.change edit.reached.items r announces apart_before apart_later (now_there after) later in
      shown_later ∙ ap shown_cell cell

  opened_by : (s : Option Slice) → slice_named h test model ≡ s
      → HasBoth (texts_after (with_edit ops edit)) test model
      → IsSaidWhole h edit test model
      ⊎ (slice_named h test model
      ≡ slice_named (texts_after (with_edit ops edit)) test model → ⊥)
      → cell_named (board_after (with_edit ops edit)) test model ≡ Open
  opened_by None is after reached = opened_none is after
  opened_by (Some s) is after reached = opened_there s is after reached

pub keeps_unreached : (ops : List BoardOp) (edit : BoardEdit) → IsHistory (with_edit ops edit)
    → KeepsUnreached ops edit
keeps_unreached ops edit history test model same part =
    let made = last_made ops (Edit edit) no_texts history.1 in
    kept_by ops edit history test model (slice_named (texts_after ops) test model) refl same
    (λ said. part (put_whole ops edit test model made said))

pub opens_reached : (ops : List BoardOp) (edit : BoardEdit) → IsHistory (with_edit ops edit)
    → OpensReached ops edit
opens_reached ops edit history test model after reached =
    opened_by ops edit history test model (slice_named (texts_after ops) test model) refl after
    (elim reached [ inl put ↦ inl (said_whole ops edit test model put) | inr differ ↦ inr differ ])
