-- What texts of tests and models owe to a desk.
use Rattle.std.proofs.Common.{◌≡◌, true, false, Bool, ◌||◌, ℕ, zero, suc, ◌*◌, ◌+◌, ◌<◌, ◌≤◌, ◌^◌, List, [], ◌∷◌, ◌++◌, Option, Some, None}
use Rattle.std.proofs.Common.{length, map, refl, sym, ap, subst, ◌∙◌, arith}
use Rattle.std.specs.Prelude.{slice_get, if◌then◌else◌, nat_lt, fold}
use Rattle.std.specs.Arc.{arc_value}
use Rattle.std.proofs.Math.Nat.{mul-le-mul_left}
use Rattle.std.proofs.lemmas.Bool.{ltb-false}
use Rattle.std.proofs.lemmas.Option.{none-some}
use Rattle.std.proofs.lemmas.List.{length-map}
use Rattle.text_values.specs.declared.test.Test.{Test}
use Rattle.text_values.specs.TestValue.{Content, content_of}
use Rattle.outcome_states.specs.declared.answer.Outcome.{Outcome}
use Rattle.memo_core.specs.declared.keys.Node.{Node}
use Rattle.from_scratch.specs.FromScratch.{IsFromScratch}
use Rattle.bench_nodes.specs.declared.table.ModelRow.{ModelRow}
use Rattle.bench_nodes.specs.declared.table.TestRow.{TestRow}
use Rattle.bench_texts.specs.declared.edit.Edit.{Edit}
use Rattle.bench_texts.specs.declared.fault.EditFault.TheVariants as faults
use Rattle.bench_texts.specs.declared.model.NamedModel.{NamedModel}
use Rattle.bench_texts.specs.declared.prepared.Prepared.{Prepared}
use Rattle.bench_texts.specs.declared.replacement.Replacement.{Replacement}
use Rattle.bench_texts.specs.BenchTexts.{BenchTexts, PlainModel, test_index, model_index, no_texts}
use Rattle.bench_texts.specs.Edits.{edit_of, Applies, Edit as PlainEdit}
use Rattle.bench_texts.specs.Held.{texts_of}
use Rattle.bench_texts.specs.Held as plain
use Rattle.bench_texts.specs.Limits.{is_full, is_spent, models_outputs}
use Rattle.bench_texts.specs.Replacements.{texts_with, IsPutBy}
use Rattle.bench_texts.proofs.Lists.{length-changed_at}
use Rattle.desk_history.proofs.Showing.{fold_push}
use Rattle.desk_ledger.specs.Boards.{BoardCell, with_outcome}
use Rattle.board.specs.declared.operation.BoardOp.{BoardOp}
use Rattle.board.specs.declared.operation.BoardOp.TheVariants as ops
use Rattle.board.specs.declared.operation.CellIndex.{CellIndex}
use Rattle.board.specs.Contents.{RowContent, ColumnContent, BoardContent}
use Rattle.board.specs.Legal.{TestsAndModels, tests_and_models, tests_and_models_with, tests_and_models_after, no_tests_or_models, texts_after, IsRightAt}
use Rattle.board.specs.Legal.{number_after, last_number, MayFollow}
use Rattle.board.specs.Operations.{with_cell, with_settled_cell, after_operation, no_board, board_after}
use Rattle.board.specs.Right.{HasNamesOf}
use Rattle.board.proofs.Names.{IsNamed, as_many, names_from, one_more_is_legal}
use Rattle.board.proofs.Changed.{map-kept}
use Rattle.bench_instance.specs.declared.stamped_texts.StampedTexts.{StampedTexts}
use Rattle.bench_instance.specs.declared.stamped_texts.PreparedEdit.{PreparedEdit}
use Rattle.bench_instance.specs.StampedTexts.{AreSoundTexts, AreTextsSince, verdict_by, verdict_of}
use Rattle.bench_instance.specs.Edited.{IsPrepared, IsCommitted}
use Rattle.bench_instance.specs.StampedCells.{cell_from_scratch, scratch_by, test_of, model_of}
use Rattle.bench_instance.specs.Lemmas.CellProofs.{cell_in, is_named, stands_there, tests_apart, models_apart}
use Rattle.bench_instance.specs.Cells.{cell_with, all_cells, IsCountable, IsCellIndexOf, board_cells}
use Rattle.board.specs.Histories.{contents_with, contents_after, IsMadeOn, AreMadeFrom, IsHistory, MayComeNext, IsEditAfter, IsSettle}
use Rattle.bench_instance.specs.Texts.{AreAfter}
use Rattle.bench_instance.specs.Texts.{IsAnnounced, SettlesCell}
use Rattle.bench_instance.specs.Lemmas.Listing.{are_all, all_get, all_put, cell_of_row, row_cell, outcome_at}

-- ---- names

abbrev board_tests : BoardContent → List (List ℕ)
board_tests b = map (λ r. r.name) b.rows

abbrev board_models : BoardContent → List (List ℕ)
board_models b = map (λ c. c.name) b.columns

abbrev held_tests : TestsAndModels → List (List ℕ)
held_tests h = map (λ t. t.name) h.tests

abbrev held_models : TestsAndModels → List (List ℕ)
held_models h = map (λ m. m.name) h.models

-- ---- one operation more

one_more_is_made : (all : List BoardOp) (op : BoardOp) (t : BenchTexts)
    → AreMadeFrom t all → IsMadeOn (fold contents_with t all) op → AreMadeFrom t (all ++ op ∷ [])
one_more_is_made [] op t made may = (may, tt)
one_more_is_made (o ∷ all) op t made may =
    (made.0, one_more_is_made all op (contents_with t o) made.1 may)

pub goes_on : (all : List BoardOp) (op : BoardOp) → IsHistory all → MayComeNext all op
    → IsHistory (all ++ op ∷ [])
goes_on all op history may = (
  one_more_is_legal all op no_tests_or_models 0 history.0 may.0,
  one_more_is_made all op no_texts history.1 may.1,
)

texts_push : (all : List BoardOp) (op : BoardOp)
    → texts_after (all ++ op ∷ []) ≡ tests_and_models_after (texts_after all) op
texts_push all op = fold_push tests_and_models_after no_tests_or_models all op

contents_push : (all : List BoardOp) (op : BoardOp)
    → contents_after (all ++ op ∷ []) ≡ contents_with (contents_after all) op
contents_push all op = fold_push contents_with no_texts all op

pub board_push : (all : List BoardOp) (op : BoardOp)
    → board_after (all ++ op ∷ []) ≡ after_operation (board_after all) op
board_push all op = fold_push after_operation no_board all op

names_push : (all : List BoardOp) (op : BoardOp) (last : ℕ)
    → HasNamesOf all → MayFollow (texts_after all) last op → HasNamesOf (all ++ op ∷ [])
names_push all op last names may =
    let b = board_after all in
    let before : IsNamed b.rows b.columns (texts_after all) = record { tests = names.tests; models = names.models } in
    let more = names_from (op ∷ []) b (texts_after all) last (may, tt) before in
    record {
      tests =
          ap board_tests (board_push all op) ∙
          (more.tests ∙ ap held_tests (sym (texts_push all op)));
      models =
          ap board_models (board_push all op) ∙
          (more.models ∙ ap held_models (sym (texts_push all op)));
    }

-- ---- texts that are the same

abbrev held : List Test → List NamedModel → TestsAndModels
held ts ms = record { tests = ts; models = ms }

held_same : (ts us : List Test) (ms ns : List NamedModel) → us ≡ ts → ns ≡ ms
    → held us ns ≡ held ts ms
held_same ts us ms ns e f = ap (λ (cs : List Test). held cs ns) e ∙ ap (held ts) f

held_alike : (t u : StampedTexts) → u.texts.tests.items ≡ t.texts.tests.items
    → u.texts.models.items ≡ t.texts.models.items
    → tests_and_models u.texts ≡ tests_and_models t.texts
held_alike t u e f =
    held_same t.texts.tests.items u.texts.tests.items t.texts.models.items u.texts.models.items e f

pub same_after : (t u : StampedTexts) (all : List BoardOp)
    → AreSoundTexts t → u.parts.last ≡ t.parts.last → AreTextsSince t u → AreAfter t all → AreAfter u all
same_after t u all sound last since a =
    let same = since.same last in
    record {
      held = held_alike t u same.tests same.models ∙ a.held;
      contents = same.texts ∙ a.contents;
      names = a.names;
      few_tests = a.few_tests;
      few_models = a.few_models;
    }

-- so are the verdicts of cells
pub verdicts_same : (t u : StampedTexts) (test model : List ℕ)
    → AreSoundTexts t → u.parts.last ≡ t.parts.last → AreTextsSince t u
    → verdict_of u test model ≡ verdict_of t test model
verdicts_same t u test model sound last since =
    let rows = since.same_rows last in
    let i : ℕ = test_index test (texts_of t.texts).tests in
    let j : ℕ = model_index model (texts_of t.texts).models in
    ap
    (λ (b : BenchTexts).
    verdict_by (slice_get u.parts.table.tests.items (test_index test b.tests))
    (slice_get u.parts.table.models.items (model_index model b.models))) (since.same last).texts
    ∙ (ap
    (λ (rs : List TestRow). verdict_by (slice_get rs i)
    (slice_get u.parts.table.models.items j)) rows.tests
    ∙ ap
    (λ (ms : List ModelRow). verdict_by (slice_get t.parts.table.tests.items i) (slice_get ms j))
    rows.models)

pub prepared_held : (t u : StampedTexts) (e : Edit) (p : PreparedEdit) → IsPrepared t e p u
    → tests_and_models u.texts ≡ tests_and_models t.texts
prepared_held t u e p h = held_alike t u ((h.same).state).tests (h.same).models

-- ---- edits

not_full : (full spent is : Bool)
    → (if full then Some faults.Full else (if spent || is then Some faults.Spent else None)) ≡ None
    → full ≡ false
not_full true spent is e = cc
not_full false spent is e = refl

neither : (x y z : Bool) → (x || y || z) ≡ false → (x ≡ false) × (y ≡ false)
neither true y z e = cc
neither false true z e = cc
neither false false z e = (refl, refl)

few_by : (t : BenchTexts) → is_full t ≡ false → (length t.tests ≤ 512) × (length t.models ≤ 16)
few_by t e =
    let outputs = nat_lt 524288 (length t.tests * (1 + models_outputs t.models)) in
    let n = neither (nat_lt 512 (length t.tests)) (nat_lt 16 (length t.models)) outputs e in
    (ltb-false 512 (length t.tests) n.0, ltb-false 16 (length t.models) n.1)

-- an edit makes no more tests and models than the bench takes
pub made_few : (t new : BenchTexts) (e : PlainEdit) → Applies t false e new
    → (length new.tests ≤ 512) × (length new.models ≤ 16)
made_few t new e applies = few_by new (not_full (is_full new) false (is_spent t) applies.within)

-- the texts with what a prepared edit puts
abbrev texts_made : StampedTexts → PreparedEdit → BenchTexts
texts_made t p = texts_with p.texts.replacement (texts_of t.texts)

-- no more than the bench takes
abbrev AreFew : StampedTexts → Type 0
AreFew t = (length t.texts.tests.items ≤ 512) × (length t.texts.models.items ≤ 16)

committed_texts : (t u w : StampedTexts) (e : Edit) (p : PreparedEdit) (number : ℕ)
    → IsPrepared t e p u → IsCommitted u p number w → texts_of w.texts ≡ texts_made t p
committed_texts t u w e p number h c = c.texts ∙ ap (texts_with p.texts.replacement) (h.same).texts

committed_few : (t u w : StampedTexts) (e : Edit) (p : PreparedEdit) (number : ℕ)
    → IsPrepared t e p u → IsCommitted u p number w → AreFew w
committed_few t u w e p number h c =
    let full = not_full (is_full (texts_made t p)) false (is_spent (texts_of t.texts)) (h.applies).within in
    let few = few_by (texts_of w.texts) (ap is_full (committed_texts t u w e p number h c) ∙ full) in
    let tests : length w.texts.tests.items ≤ 512 = subst (λ (n : ℕ). n ≤ 512) (length-map w.texts.tests.items content_of) few.0 in
    let models : length w.texts.models.items ≤ 16 = subst (λ (n : ℕ). n ≤ 16) (length-map w.texts.models.items plain.plain_model) few.1 in
    (tests, models)

committed_held : (t u w : StampedTexts) (e : Edit) (p : PreparedEdit) (number : ℕ)
    → IsPrepared t e p u → IsCommitted u p number w
    → tests_and_models w.texts ≡ tests_and_models_with p.texts.replacement (tests_and_models t.texts)
committed_held t u w e p number h c =
    let put : tests_and_models w.texts ≡ tests_and_models_with p.texts.replacement (tests_and_models u.texts) =
    held_same _ w.texts.tests.items _ w.texts.models.items c.tests c.models in
    put ∙ ap (tests_and_models_with p.texts.replacement) (prepared_held t u e p h)

after_by : (u : StampedTexts) (all : List BoardOp)
    → tests_and_models u.texts ≡ texts_after all → texts_of u.texts ≡ contents_after all → HasNamesOf all
    → AreFew u → AreAfter u all
after_by u all e f names few = record {
  held = e;
  contents = f;
  names = names;
  few_tests = subst (λ (h : TestsAndModels). length h.tests ≤ 512) e few.0;
  few_models = subst (λ (h : TestsAndModels). length h.models ≤ 16) e few.1;
}

pub edits_after : (t u w : StampedTexts) (e : Edit) (p : PreparedEdit) (number : ℕ) (op : BoardOp)
    (all : List BoardOp)
    → AreSoundTexts t → AreAfter t all → IsPrepared t e p u → IsAnnounced u p number op
    → IsCommitted u p number w
    → AreAfter w (all ++ op ∷ [])
edits_after t u w e p number (ops.Edit b) all sound a h n c =
    let same : tests_and_models u.texts ≡ texts_after all = prepared_held t u e p h ∙ a.held in
    let may : MayFollow (texts_after all) u.parts.last (ops.Edit b) =
    subst (λ (g : TestsAndModels). MayFollow g u.parts.last (ops.Edit b)) same (n.2 u.parts.last c.later) in
    let put : p.texts.replacement ≡ b.prepared.value.replacement = ap (λ (q : Prepared). q.replacement) (sym n.1) in
    let held_is : tests_and_models w.texts ≡ tests_and_models_with b.prepared.value.replacement (texts_after all) =
    committed_held t u w e p number h c
    ∙
    (ap (tests_and_models_with p.texts.replacement) a.held ∙ ap
    (λ (r : Replacement). tests_and_models_with r (texts_after all)) put) in
    let contents_are : texts_of w.texts ≡ texts_with b.prepared.value.replacement (contents_after all) =
    committed_texts t u w e p number h c
    ∙
    (ap (texts_with p.texts.replacement) a.contents ∙ ap
    (λ (r : Replacement). texts_with r (contents_after all)) put) in
    after_by w (all ++ ops.Edit b ∷ [])
    (held_is ∙ sym (texts_push all (ops.Edit b)))
    (contents_are ∙ sym (contents_push all (ops.Edit b)))
    (names_push all (ops.Edit b) u.parts.last a.names may)
    (committed_few t u w e p number h c)
edits_after t u w e p number (ops.Settle at outcome) all sound a h n c = absurd n

pub edits_named : (t u : StampedTexts) (e : Edit) (p : PreparedEdit) (number : ℕ) (op : BoardOp)
    (all : List BoardOp)
    → AreSoundTexts t → AreAfter t all → IsPrepared t e p u → IsAnnounced u p number op
    → IsEditAfter all op e number
edits_named t u e p number (ops.Edit b) all sound a h n =
    let now = contents_after all in
    let applies : Applies now false (edit_of e) (texts_with p.texts.replacement now) =
    subst (λ (x : BenchTexts). Applies x false (edit_of e) (texts_with p.texts.replacement x))
    a.contents h.applies in
    let put : Applies now false (edit_of e) (texts_with b.prepared.value.replacement now) =
    subst (λ (q : Prepared). Applies now false (edit_of e) (texts_with q.replacement now)) (sym n.1)
    applies in
    let target : IsPutBy now (edit_of e) b.prepared.value.replacement =
    subst (λ (q : Prepared). IsPutBy now (edit_of e) q.replacement) (sym n.1)
    (subst (λ (x : BenchTexts). IsPutBy x (edit_of e) p.texts.replacement) a.contents h.target)
    in (
      n.0,
      record {
        applies = put;
        target = target;
        whole = ap (λ (q : Prepared). q.whole) n.1 ∙ h.whole;
      },
    )
edits_named t u e p number (ops.Settle at outcome) all sound a h n = absurd n

pub edits_follow : (t u : StampedTexts) (e : Edit) (p : PreparedEdit) (number : ℕ) (op : BoardOp)
    (all : List BoardOp)
    → AreSoundTexts t → AreAfter t all → last_number all < number → IsPrepared t e p u
    → IsAnnounced u p number op → MayComeNext all op
edits_follow t u e p number (ops.Edit b) all sound a lt h n =
    let same : tests_and_models u.texts ≡ texts_after all = prepared_held t u e p h ∙ a.held in
    let may = subst (λ (g : TestsAndModels). MayFollow g (last_number all) (ops.Edit b)) same (n.2 (last_number all) lt) in
    (may, (edit_of e, (edits_named t u e p number (ops.Edit b) all sound a h n).1))
edits_follow t u e p number (ops.Settle at outcome) all sound a lt h n = absurd n

pub edits_numbered : (u : StampedTexts) (p : PreparedEdit) (number : ℕ) (op : BoardOp)
    (all : List BoardOp)
    → IsAnnounced u p number op → last_number (all ++ op ∷ []) ≡ number
edits_numbered u p number (ops.Edit b) all n = fold_push number_after 0 all (ops.Edit b) ∙ n.0
edits_numbered u p number (ops.Settle at outcome) all n = absurd n

-- ---- cells that are settled

pub settles_named : (b : BoardContent) (index : ℕ) (o : Outcome) (op : BoardOp)
    → SettlesCell b index o op → IsSettle op
settles_named b index o (ops.Edit edit) s = absurd s
settles_named b index o (ops.Settle at outcome) s = tt

settle_names : (all : List BoardOp) (op : BoardOp) → IsSettle op → HasNamesOf all
    → HasNamesOf (all ++ op ∷ [])
settle_names all (ops.Edit edit) s names = absurd s
settle_names all (ops.Settle at outcome) s names =
    let op = ops.Settle at outcome in
    let kept = map-kept (λ r. r.name) (with_cell at.model (Some (arc_value outcome))) (λ r. refl) (board_after all).rows at.test in
    record {
      tests =
          ap board_tests (board_push all op) ∙ (kept ∙
          (names.tests ∙ ap held_tests (sym (texts_push all op))));
      models =
          ap board_models (board_push all op) ∙
          (names.models ∙ ap held_models (sym (texts_push all op)));
    }

settle_texts : (all : List BoardOp) (op : BoardOp) → IsSettle op
    → texts_after (all ++ op ∷ []) ≡ texts_after all
settle_texts all (ops.Edit edit) s = absurd s
settle_texts all (ops.Settle at outcome) s = texts_push all (ops.Settle at outcome)

settle_contents : (all : List BoardOp) (op : BoardOp) → IsSettle op
    → contents_after (all ++ op ∷ []) ≡ contents_after all
settle_contents all (ops.Edit edit) s = absurd s
settle_contents all (ops.Settle at outcome) s = contents_push all (ops.Settle at outcome)

pub settles_after : (t : StampedTexts) (all : List BoardOp) (op : BoardOp)
    → AreAfter t all → IsSettle op → AreAfter t (all ++ op ∷ [])
settles_after t all op a s =
    let e = settle_texts all op s in
    record {
      held = a.held ∙ sym e;
      contents = a.contents ∙ sym (settle_contents all op s);
      names = settle_names all op s a.names;
      few_tests = subst (λ (h : TestsAndModels). length h.tests ≤ 512) (sym e) a.few_tests;
      few_models = subst (λ (h : TestsAndModels). length h.models ≤ 16) (sym e) a.few_models;
    }

pub settles_numbered : (all : List BoardOp) (op : BoardOp) → IsSettle op
    → last_number (all ++ op ∷ []) ≡ last_number all
settles_numbered all (ops.Edit edit) s = absurd s
settles_numbered all (ops.Settle at outcome) s =
    fold_push number_after 0 all (ops.Settle at outcome)

pub settles_show : (b : BoardContent) (index : ℕ) (o : Outcome) (op : BoardOp)
    → SettlesCell b index o op
    → board_cells (after_operation b op) ≡ with_outcome index o (board_cells b)
settles_show b index o (ops.Edit edit) s = absurd s
settles_show b index o (ops.Settle at outcome) s =
    let new = arc_value outcome in
    let cell = s.1 in
    let as_long = length-changed_at (with_cell at.model (Some new)) b.rows at.test in
    let countable : IsCountable (with_settled_cell at new b) =
    subst (λ (n : ℕ). n * length b.columns < 2 ^ 64) (sym as_long) cell.countable in
    are_all (with_settled_cell at new b) countable
    ∙ (all_put b.columns b.rows at.test at.model new (cell.there).0 (cell.is_index).1 (cell.there).1
    ∙ (ap (λ (k : ℕ). with_outcome k new (all_cells b.columns b.rows)) (sym (cell.is_index).0)
    ∙ (ap (λ (q : Outcome). with_outcome index q (all_cells b.columns b.rows)) s.0
    ∙ ap (with_outcome index o) (sym (are_all b cell.countable)))))

-- ---- names at an index

record IsCellHere (row : Option RowContent) (column : Option ColumnContent) (c : BoardCell Outcome)
    : Type 0 where
  pub of_test : RowContent
  pub of_model : ColumnContent
  pub row_is : row ≡ Some of_test
  pub column_is : column ≡ Some of_model
  pub test_is : of_test.name ≡ c.test
  pub model_is : of_model.name ≡ c.model

same_cell : {a b : BoardCell Outcome} → Some a ≡ Some b → a ≡ b
same_cell e = cc

cell_here : (columns : List ColumnContent) (row : Option RowContent) (j : ℕ) (c : BoardCell Outcome)
    → cell_of_row columns row j ≡ Some c → IsCellHere row (slice_get columns j) c
cell_here columns None j c h = absurd (none-some c h)
cell_here columns (Some r) j c h = by_column (slice_get columns j) h
  where
    by_column : (m : Option ColumnContent) → row_cell r.name m (outcome_at r.cells j) ≡ Some c
        → IsCellHere (Some r) m c
    by_column None e = absurd (none-some c e)
    by_column (Some m) e =
        let same : cell_with r.name m.name (outcome_at r.cells j) ≡ c = same_cell e in
        record {
          of_test = r;
          of_model = m;
          row_is = refl;
          column_is = refl;
          test_is = ap (λ (k : BoardCell Outcome). k.test) same;
          model_is = ap (λ (k : BoardCell Outcome). k.model) same;
        }

-- an element of the other list, at the same index, of that name
abbrev IsNamesake : {B C : Type 0} → (B → C) → List B → ℕ → C → Type 0
IsNamesake {B} {C} g ys i name = (y : B) × (slice_get ys i ≡ Some y) × (g y ≡ name)

named_there : {A B C : Type 0} (f : A → C) (g : B → C) (xs : List A) (ys : List B) (i : ℕ) (x : A)
    → map f xs ≡ map g ys → slice_get xs i ≡ Some x → IsNamesake g ys i (f x)
named_there f g [] ys i x e h = absurd (none-some x h)
named_there f g (a ∷ xs) [] i x e h = cc
named_there f g (a ∷ xs) (y ∷ ys) zero x e h =
    let first : f a ≡ g y = (cc) in
    let same : a ≡ x = (cc) in
    (y, refl, sym first ∙ ap f same)
named_there f g (a ∷ xs) (y ∷ ys) (suc i) x e h =
    let rest : map f xs ≡ map g ys = (cc) in named_there f g xs ys i x rest h

right_by : (test : Test) (model : NamedModel) (a : Option Test) (b : Option NamedModel)
    (o : Outcome)
    → a ≡ Some test → b ≡ Some model → scratch_by a b o → IsFromScratch test model.text o
right_by test model a b o e f right =
    let of_test = subst (λ (c : Option Test). scratch_by c b o) e right in
    subst (λ (m : Option NamedModel). scratch_by (Some test) m o) f of_test

-- the test of a name is the one at its index, and so is the model
test_here : (t : StampedTexts) (i : ℕ) (test : Test) (name : List ℕ)
    → AreSoundTexts t → slice_get t.texts.tests.items i ≡ Some test → test.name ≡ name
    → test_of t name ≡ Some test
test_here t i test name sound there named =
    let at : test_index name (texts_of t.texts).tests ≡ i =
    stands_there (λ (k : Content). k.name) content_of name t.texts.tests.items i test
    (tests_apart t sound) there named in
    ap (slice_get t.texts.tests.items) at ∙ there

model_here : (t : StampedTexts) (j : ℕ) (model : NamedModel) (name : List ℕ)
    → AreSoundTexts t → slice_get t.texts.models.items j ≡ Some model → model.name ≡ name
    → model_of t name ≡ Some model
model_here t j model name sound there named =
    let at : model_index name (texts_of t.texts).models ≡ j =
    stands_there (λ (k : PlainModel). k.name) plain.plain_model name t.texts.models.items j model
    (models_apart t sound) there named in
    ap (slice_get t.texts.models.items) at ∙ there

-- the test and the model of a cell stand at its indexes
cell_indexes : (t : StampedTexts) (all : List BoardOp) (index : ℕ) (c : BoardCell Outcome)
    (at : CellIndex)
    → AreSoundTexts t → AreAfter t all → IsCountable (board_after all)
    → IsCellIndexOf (board_after all) index at
    → slice_get (board_cells (board_after all)) index ≡ Some c
    → (test_index c.test (texts_of t.texts).tests ≡ at.test)
    × (model_index c.model (texts_of t.texts).models ≡ at.model)
cell_indexes t all index c at sound a countable is h =
    let b = board_after all in
    let texts = texts_after all in
    let listed : slice_get (all_cells b.columns b.rows) (at.test * length b.columns + at.model) ≡ Some c =
    ap (λ (k : ℕ). slice_get (all_cells b.columns b.rows) k) (sym is.0)
    ∙
    (ap (λ (cs : List (BoardCell Outcome)). slice_get cs index) (sym (are_all b countable)) ∙ h) in
    let cell = cell_here b.columns (slice_get b.rows at.test) at.model c
    (sym (all_get b.columns b.rows at.test at.model is.1) ∙ listed) in
    let test = named_there (λ r. r.name) (λ x. x.name) b.rows texts.tests at.test cell.of_test (a.names).tests cell.row_is in
    let model = named_there (λ m. m.name) (λ x. x.name) b.columns texts.models at.model cell.of_model (a.names).models cell.column_is in
    let test_there = ap (λ (g : TestsAndModels). slice_get g.tests at.test) a.held ∙ test.1 in
    let model_there = ap (λ (g : TestsAndModels). slice_get g.models at.model) a.held ∙ model.1 in
    let test_is : test_index c.test (texts_of t.texts).tests ≡ at.test =
    stands_there (λ (k : Content). k.name) content_of c.test t.texts.tests.items at.test test.0
    (tests_apart t sound) test_there (test.2 ∙ cell.test_is) in
    let model_is : model_index c.model (texts_of t.texts).models ≡ at.model =
    stands_there (λ (k : PlainModel). k.name) plain.plain_model c.model t.texts.models.items at.model model.0
    (models_apart t sound) model_there (model.2 ∙ cell.model_is) in
    (test_is, model_is)

-- the verdict of a cell is that of the test and the model at its indexes
pub verdict_here : (t : StampedTexts) (all : List BoardOp) (index : ℕ) (c : BoardCell Outcome)
    (at : CellIndex)
    → AreSoundTexts t → AreAfter t all → IsCountable (board_after all)
    → IsCellIndexOf (board_after all) index at
    → slice_get (board_cells (board_after all)) index ≡ Some c
    → verdict_of t c.test c.model
    ≡ verdict_by (slice_get t.parts.table.tests.items at.test)
    (slice_get t.parts.table.models.items at.model)
verdict_here t all index c at sound a countable is h =
    let here = cell_indexes t all index c at sound a countable is h in
    ap
    (λ (i : ℕ). verdict_by (slice_get t.parts.table.tests.items i)
    (slice_get t.parts.table.models.items (model_index c.model (texts_of t.texts).models))) here.0
    ∙ ap
    (λ (j : ℕ). verdict_by (slice_get t.parts.table.tests.items at.test)
    (slice_get t.parts.table.models.items j)) here.1

pub settles_follow : (t : StampedTexts) (all : List BoardOp) (index : ℕ) (c : BoardCell Outcome)
    (o : Outcome) (op : BoardOp)
    → AreSoundTexts t → AreAfter t all → slice_get (board_cells (board_after all)) index ≡ Some c
    → cell_from_scratch t c.test c.model o → SettlesCell (board_after all) index o op → MayComeNext all op
settles_follow t all index c o (ops.Edit edit) sound a h right s = absurd s
settles_follow t all index c o (ops.Settle at outcome) sound a h right s =
    let b = board_after all in
    let texts = texts_after all in
    let is = (s.1).is_index in
    let listed : slice_get (all_cells b.columns b.rows) (at.test * length b.columns + at.model) ≡ Some c =
    ap (λ (k : ℕ). slice_get (all_cells b.columns b.rows) k) (sym is.0)
    ∙
    (ap (λ (cs : List (BoardCell Outcome)). slice_get cs index)
    (sym (are_all b (s.1).countable)) ∙ h) in
    let cell = cell_here b.columns (slice_get b.rows at.test) at.model c
    (sym (all_get b.columns b.rows at.test at.model is.1) ∙ listed) in
    let test = named_there (λ r. r.name) (λ x. x.name) b.rows texts.tests at.test cell.of_test (a.names).tests cell.row_is in
    let model = named_there (λ m. m.name) (λ x. x.name) b.columns texts.models at.model cell.of_model (a.names).models cell.column_is in
    let test_there = ap (λ (g : TestsAndModels). slice_get g.tests at.test) a.held ∙ test.1 in
    let model_there = ap (λ (g : TestsAndModels). slice_get g.models at.model) a.held ∙ model.1 in
    let test_is = test_here t at.test test.0 c.test sound test_there (test.2 ∙ cell.test_is) in
    let model_is = model_here t at.model model.0 c.model sound model_there (model.2 ∙ cell.model_is) in
    let there : IsRightAt texts at.test at.model (arc_value outcome) = record {
      test = test.0;
      model = model.0;
      test_there = test.1;
      model_there = model.1;
      right = subst (IsFromScratch test.0 model.0.text) (sym s.0)
          (right_by test.0 model.0 (test_of t c.test) (model_of t c.model) o test_is model_is
          right);
    } in
    (there, tt)

-- ---- each cell of the texts is a cell of the board

pub is_below : {A : Type 0} (xs : List A) (i : ℕ) (x : A) → slice_get xs i ≡ Some x → i < length xs
is_below [] i x h = absurd (none-some x h)
is_below (y ∷ xs) zero x h = omega arith
is_below (y ∷ xs) (suc i) x h = let l = is_below xs i x h in omega (arith, l)

product_few : (n m : ℕ) → n ≤ 512 → m ≤ 16 → n * m < 2 ^ 64
product_few n m few_n few_m = let p = mul-le-mul_left n few_m in omega (arith, p, few_n)

is_countable : (t : StampedTexts) (all : List BoardOp) → AreAfter t all
    → IsCountable (board_after all)
is_countable t all a =
    let b = board_after all in
    let texts = texts_after all in
    let rows = as_many (λ r. r.name) (λ x. x.name) b.rows texts.tests (a.names).tests in
    let columns = as_many (λ m. m.name) (λ x. x.name) b.columns texts.models (a.names).models in
    product_few (length b.rows) (length b.columns)
    (subst (λ (k : ℕ). k ≤ 512) (sym rows) a.few_tests)
    (subst (λ (k : ℕ). k ≤ 16) (sym columns) a.few_models)

cell_there : (columns : List ColumnContent) (row : RowContent) (column : ColumnContent) (j : ℕ)
    → slice_get columns j ≡ Some column
    → cell_of_row columns (Some row) j
    ≡ Some (cell_with row.name column.name (outcome_at row.cells j))
cell_there columns row column j h =
    ap (λ (m : Option ColumnContent). row_cell row.name m (outcome_at row.cells j)) h

-- the cell of a row and a column that are there is listed
cell_listed : (b : BoardContent) (i j : ℕ) (row : RowContent) (column : ColumnContent)
    → IsCountable b → slice_get b.rows i ≡ Some row → slice_get b.columns j ≡ Some column
    → slice_get (board_cells b) (i * length b.columns + j)
    ≡ Some (cell_with row.name column.name (outcome_at row.cells j))
cell_listed b i j row column countable row_is column_is =
    ap (λ (cs : List (BoardCell Outcome)). slice_get cs (i * length b.columns + j))
    (are_all b countable)
    ∙ (all_get b.columns b.rows i j (is_below b.columns j column column_is)
    ∙ (ap (λ (r : Option RowContent). cell_of_row b.columns r j) row_is ∙ cell_there b.columns row
    column j column_is))

-- a cell of these names is listed at that index
abbrev pub IsListedAt : BoardContent → ℕ → List ℕ → List ℕ → Type 0
IsListedAt b index test model =
    (c : BoardCell Outcome) × (slice_get (board_cells b) index ≡ Some c) × (c.test ≡ test)
    × (c.model ≡ model)

-- it is listed in the row of its test, at the index of its model
pub cells_are_there : (t : StampedTexts) (all : List BoardOp) (test model : List ℕ) (n : Node)
    → AreSoundTexts t → AreAfter t all → verdict_of t test model ≡ Some n
    → (model_index model (texts_of t.texts).models < length (board_after all).columns)
    × IsListedAt (board_after all) (test_index test (texts_of t.texts).tests
    * length (board_after all).columns + model_index model (texts_of t.texts).models) test model
cells_are_there t all test model n sound a h =
    let b = board_after all in
    let texts = texts_after all in
    let i = test_index test (texts_of t.texts).tests in
    let j = model_index model (texts_of t.texts).models in
    let cell = cell_in t test model n sound h in
    let test_there = ap (λ (g : TestsAndModels). slice_get g.tests i) (sym a.held) ∙ cell.test_is in
    let model_there = ap (λ (g : TestsAndModels). slice_get g.models j) (sym a.held) ∙ cell.model_is in
    let row = named_there (λ x. x.name) (λ r. r.name) texts.tests b.rows i cell.of_test (sym (a.names).tests) test_there in
    let column = named_there (λ x. x.name) (λ m. m.name) texts.models b.columns j cell.of_model (sym (a.names).models) model_there in (
      is_below b.columns j column.0 column.1,
      (
        cell_with row.0.name column.0.name (outcome_at row.0.cells j),
        cell_listed b i j row.0 column.0 (is_countable t all a) row.1 column.1,
        row.2 ∙ is_named (λ (k : Content). k.name) content_of test t.texts.tests.items cell.of_test
            cell.test_is,
        column.2 ∙ is_named (λ (k : PlainModel). k.name) plain.plain_model model t.texts.models.items
            cell.of_model cell.model_is,
      ),
    )

-- a cell of these names is listed
abbrev pub IsListed : BoardContent → List ℕ → List ℕ → Type 0
IsListed b test model =
    (index : ℕ) × (c : BoardCell Outcome) × (slice_get (board_cells b) index ≡ Some c)
    × (c.test ≡ test) × (c.model ≡ model)

pub cells_are_known : (t : StampedTexts) (all : List BoardOp) (test model : List ℕ) (n : Node)
    → AreSoundTexts t → AreAfter t all → verdict_of t test model ≡ Some n
    → IsListed (board_after all) test model
cells_are_known t all test model n sound a h =
    let k = cells_are_there t all test model n sound a h in (
      test_index test (texts_of t.texts).tests * length (board_after all).columns
          + model_index model (texts_of t.texts).models,
      k.1.0,
      k.1.1,
      k.1.2,
      k.1.3,
    )
