-- Each row of a board has as many cells as there are models.
use Rattle.std.proofs.Common.{◌≡◌, ℕ, zero, suc, ◌+◌, List, [], ◌∷◌, ◌++◌, length, map, Some, None, Bool, true, false, refl, sym, ap, ◌∙◌, subst, arith}
use Rattle.std.specs.Prelude.{slice_get, remove, fold, if◌then◌else◌, nat_lt}
use Rattle.std.specs.Arc.{arc_value}
use Rattle.std.proofs.lemmas.Option.{none-some}
use Rattle.std.proofs.lemmas.List.{length-append, length-map}
use Rattle.bench_texts.specs.BenchTexts.{changed_at}
use Rattle.bench_texts.proofs.Lists.{length-changed_at}
use Rattle.board.specs.declared.operation.BoardOp.{BoardOp}
use Rattle.board.specs.declared.operation.BoardOp.TheVariants.{Edit, Settle}
use Rattle.board.specs.declared.operation.CellIndex.{CellIndex}
use Rattle.board.specs.declared.operation.NameChange.{NameChange}
use Rattle.board.specs.declared.operation.NameChange.TheVariants.{PutTest, DropTest, PutModel, DropModel}
use Rattle.board.specs.Contents.{RowContent, ColumnContent, BoardContent}
use Rattle.board.specs.Operations.{with_cell, open_cell, open_row, renamed_row, wider_row, narrower_row, rows_after, columns_after, after_operation}

abbrev pub AreWide : ℕ → List RowContent → Type 0
AreWide n [] = Unit {0}
AreWide n (r ∷ rs) = (length r.cells ≡ n) × AreWide n rs

pub wide_at : (n : ℕ) (rs : List RowContent) (i : ℕ) (r : RowContent) → AreWide n rs
    → slice_get rs i ≡ Some r → length r.cells ≡ n
wide_at n [] i r w e = absurd (none-some r e)
wide_at n (q ∷ rs) zero r w e =
    let same : q ≡ r = (cc) in ap (λ (x : RowContent). length x.cells) (sym same) ∙ w.0
wide_at n (q ∷ rs) (suc i) r w e = wide_at n rs i r w.1 e

-- ---- rows that are changed

wide_changed : (n : ℕ) (g : RowContent → RowContent)
    → ((r : RowContent) → length (g r).cells ≡ length r.cells) → (rs : List RowContent) (i : ℕ)
    → AreWide n rs → AreWide n (changed_at i g rs)
wide_changed n g same [] i w = tt
wide_changed n g same (r ∷ rs) zero w = (same r ∙ w.0, w.1)
wide_changed n g same (r ∷ rs) (suc i) w = (w.0, wide_changed n g same rs i w.1)

wide_more : (n : ℕ) (rs : List RowContent) (r : RowContent) → AreWide n rs → length r.cells ≡ n
    → AreWide n (rs ++ r ∷ [])
wide_more n [] r w e = (e, tt)
wide_more n (q ∷ rs) r w e = (w.0, wide_more n rs r w.1 e)

wide_removed : (n : ℕ) (rs : List RowContent) (i : ℕ) → AreWide n rs → AreWide n (remove rs i)
wide_removed n [] zero w = tt
wide_removed n [] (suc i) w = tt
wide_removed n (r ∷ rs) zero w = w.1
wide_removed n (r ∷ rs) (suc i) w = (w.0, wide_removed n rs i w.1)

wide_mapped : (n m : ℕ) (g : RowContent → RowContent)
    → ((r : RowContent) → length r.cells ≡ n → length (g r).cells ≡ m) → (rs : List RowContent)
    → AreWide n rs → AreWide m (map g rs)
wide_mapped n m g made [] w = tt
wide_mapped n m g made (r ∷ rs) w = (made r w.0, wide_mapped n m g made rs w.1)

-- ---- cells

removed_alike : {A B : Type 0} (xs : List A) (ys : List B) (i : ℕ) → length xs ≡ length ys
    → length (remove xs i) ≡ length (remove ys i)
removed_alike [] [] zero e = refl
removed_alike [] [] (suc i) e = refl
removed_alike [] (y ∷ ys) i e = absurd (omega (arith, e))
removed_alike (x ∷ xs) [] i e = absurd (omega (arith, e))
removed_alike (x ∷ xs) (y ∷ ys) zero e = omega (arith, e)
removed_alike (x ∷ xs) (y ∷ ys) (suc i) e =
    let f : length xs ≡ length ys = omega (arith, e) in ap suc (removed_alike xs ys i f)

opened_wide : (n : ℕ) (cells : List CellIndex) (rows : List RowContent) → AreWide n rows
    → AreWide n (fold open_cell rows cells)
opened_wide n [] rows w = w
opened_wide n (c ∷ cs) rows w =
    opened_wide n cs (open_cell rows c) (wide_changed n (with_cell c.model None)
    (λ r. length-changed_at (λ _. None) r.cells c.model) rows c.test w)

one_wider : (n : ℕ) (columns : List ColumnContent) (c : ColumnContent) (r : RowContent)
    → length r.cells ≡ length columns → length (wider_row r).cells ≡ length (columns ++ c ∷ [])
one_wider n columns c r e =
    length-append r.cells (None ∷ [])
    ∙ (ap (λ (k : ℕ). k + 1) e ∙ sym (length-append columns (c ∷ [])))

-- ---- names that are changed

put_test_wide : (at : ℕ) (name : List ℕ) (columns : List ColumnContent) (rows : List RowContent)
    (few : Bool) → AreWide (length columns) rows
    → AreWide (length columns) (if few then changed_at at (renamed_row name) rows
    else rows ++ open_row name columns ∷ [])
put_test_wide at name columns rows true w =
    wide_changed (length columns) (renamed_row name) (λ r. refl) rows at w
put_test_wide at name columns rows false w =
    wide_more (length columns) rows (open_row name columns) w (length-map columns (λ c. None))

put_model_wide : (at : ℕ) (c : ColumnContent) (columns : List ColumnContent)
    (rows : List RowContent) (few : Bool) → AreWide (length columns) rows
    → AreWide (length (if few then changed_at at (λ _. c) columns else columns ++ c ∷ []))
    (if few then rows else map wider_row rows)
put_model_wide at c columns rows true w =
    subst (λ (n : ℕ). AreWide n rows) (sym (length-changed_at (λ _. c) columns at)) w
put_model_wide at c columns rows false w =
    wide_mapped (length columns) (length (columns ++ c ∷ [])) wider_row (one_wider 0 columns c) rows
    w

named_wide : (change : NameChange) (columns : List ColumnContent) (rows : List RowContent)
    → AreWide (length columns) rows
    → AreWide (length (columns_after change columns)) (rows_after change columns rows)
named_wide (PutTest at name) columns rows w =
    put_test_wide at (arc_value name) columns rows (nat_lt at (length rows)) w
named_wide (DropTest at) columns rows w = wide_removed (length columns) rows at w
named_wide (PutModel at name items) columns rows w =
    put_model_wide at (record { name = arc_value name; items = (arc_value items).items }) columns
    rows (nat_lt at (length columns)) w
named_wide (DropModel at) columns rows w =
    wide_mapped (length columns) (length (remove columns at)) (narrower_row at)
    (λ r e. removed_alike r.cells columns at e) rows w

-- ---- operations

step_wide : (b : BoardContent) (op : BoardOp) → AreWide (length b.columns) b.rows
    → AreWide (length (after_operation b op).columns) (after_operation b op).rows
step_wide b (Edit edit) w =
    opened_wide (length (columns_after edit.change b.columns)) edit.reached.items
    (rows_after edit.change b.columns b.rows) (named_wide edit.change b.columns b.rows w)
step_wide b (Settle at outcome) w =
    wide_changed (length b.columns) (with_cell at.model (Some (arc_value outcome)))
    (λ r. length-changed_at (λ _. Some (arc_value outcome)) r.cells at.model) b.rows at.test w

pub wide_from : (ops : List BoardOp) (b : BoardContent) → AreWide (length b.columns) b.rows
    → AreWide (length (fold after_operation b ops).columns) (fold after_operation b ops).rows
wide_from [] b w = w
wide_from (op ∷ ops) b w = wide_from ops (after_operation b op) (step_wide b op w)
