-- The names of a board are those of the texts.
use Rattle.std.proofs.Common.{◌≡◌, ℕ, suc, ◌≤◌, List, [], ◌∷◌, ◌++◌, length, map, Bool, true, false, refl, sym, ap, ◌∙◌, arith}
use Rattle.std.specs.Prelude.{remove, fold, if◌then◌else◌, nat_lt, Some, None}
use Rattle.std.specs.Arc.{arc_value}
use Rattle.std.proofs.lemmas.Bool.{ltb-true, ltb-false}
use Rattle.bench_texts.specs.declared.replacement.Replacement.{Replacement}
use Rattle.bench_texts.specs.declared.replacement.Replacement.TheVariants as made
use Rattle.bench_texts.specs.BenchTexts.{changed_at, put_at}
use Rattle.bench_texts.proofs.Lists.{map-remove, map-put_at-push}
use Rattle.board.specs.declared.operation.BoardOp.{BoardOp}
use Rattle.board.specs.declared.operation.BoardOp.TheVariants.{Edit, Settle}
use Rattle.board.specs.declared.operation.CellIndex.{CellIndex}
use Rattle.board.specs.declared.operation.NameChange.{NameChange}
use Rattle.board.specs.declared.operation.NameChange.TheVariants.{PutTest, DropTest, PutModel, DropModel}
use Rattle.board.specs.Contents.{RowContent, ColumnContent, BoardContent}
use Rattle.board.specs.Operations.{open_cell, with_cell, renamed_row, open_row, wider_row, narrower_row, rows_after, columns_after, after_operation}
use Rattle.board.specs.Legal.{TestsAndModels, tests_and_models_with, tests_and_models_after, number_after, Announces, MayFollow, LegalFrom}
use Rattle.board.proofs.Changed.{map-kept, map-changed-put, map-placed}

abbrev row_names : List RowContent → List (List ℕ)
row_names rows = map (λ r. r.name) rows

abbrev column_names : List ColumnContent → List (List ℕ)
column_names columns = map (λ c. c.name) columns

pub record IsNamed (rows : List RowContent) (columns : List ColumnContent) (h : TestsAndModels) : Type 0 where
  pub tests : row_names rows ≡ map (λ t. t.name) h.tests
  pub models : column_names columns ≡ map (λ m. m.name) h.models

opened_names : (cells : List CellIndex) (rows : List RowContent)
    → row_names (fold open_cell rows cells) ≡ row_names rows
opened_names [] rows = refl
opened_names (c ∷ cs) rows =
    opened_names cs (open_cell rows c)
    ∙ map-kept (λ r. r.name) (with_cell c.model None) (λ r. refl) rows c.test

narrow_names : (m : ℕ) (rows : List RowContent)
    → row_names (map (narrower_row m) rows) ≡ row_names rows
narrow_names m [] = refl
narrow_names m (r ∷ rs) = ap (λ ns. r.name ∷ ns) (narrow_names m rs)

wide_names : (rows : List RowContent) → row_names (map wider_row rows) ≡ row_names rows
wide_names [] = refl
wide_names (r ∷ rs) = ap (λ ns. r.name ∷ ns) (wide_names rs)

wider_names : (b : Bool) (rows : List RowContent)
    → row_names (if b then rows else map wider_row rows) ≡ row_names rows
wider_names true rows = refl
wider_names false rows = wide_names rows

put_by : {A : Type 0} (f : A → List ℕ) (g : A → A) (y : A) → ((x : A) → f (g x) ≡ f y)
    → (xs : List A) (at : ℕ) (b : Bool) → nat_lt at (length xs) ≡ b → at ≤ length xs
    → map f (if b then changed_at at g xs else xs ++ y ∷ []) ≡ put_at at (f y) (map f xs)
put_by f g y is xs at true e le = map-changed-put f g (f y) is xs at (ltb-true at (length xs) e)
put_by f g y is xs at false e le =
    let l : length xs ≤ at = ltb-false at (length xs) e in map-put_at-push f xs at y (omega arith)

pub put_names : {A B : Type 0} (f : A → List ℕ) (g : A → A) (y : A) (named : B → List ℕ) (z : B)
    → ((x : A) → f (g x) ≡ f y) → (xs : List A) (zs : List B) (at : ℕ) → at ≤ length xs
    → f y ≡ named z → map f xs ≡ map named zs
    → map f (if nat_lt at (length xs) then changed_at at g xs else xs ++ y ∷ [])
    ≡ map named (put_at at z zs)
put_names f g y named z is xs zs at le same names =
    put_by f g y is xs at (nat_lt at (length xs)) refl le
    ∙ (ap (λ n. put_at at n (map f xs)) same
    ∙ (ap (λ ns. put_at at (named z) ns) names ∙ sym (map-placed named z zs at)))

pub as_many : {A B C : Type 0} (f : A → C) (g : B → C) (xs : List A) (ys : List B)
    → map f xs ≡ map g ys → length xs ≡ length ys
as_many f g [] [] e = refl
as_many f g [] (y ∷ ys) e = cc
as_many f g (x ∷ xs) [] e = cc
as_many f g (x ∷ xs) (y ∷ ys) e =
    ap suc (as_many f g xs ys (let same : map f xs ≡ map g ys = (cc) in same))

module _ (h : TestsAndModels) (rows : List RowContent) (columns : List ColumnContent)
    (named : IsNamed rows columns h) (cells : List CellIndex) where
  edit_named : (whole : Bool) (change : NameChange) (r : Replacement)
      → Announces h whole change cells r
      → IsNamed (fold open_cell (rows_after change columns rows) cells)
      (columns_after change columns) (tests_and_models_with r h)
  edit_named whole (PutTest at name) (made.PutTest index test) a =
      let le : at ≤ length rows = omega (arith, a.1, as_many (λ r. r.name) (λ t. t.name) rows h.tests named.tests) in
      let new = open_row (arc_value name) columns in
      record {
        tests = opened_names cells (rows_after (PutTest at name) columns rows)
            ∙ (put_names (λ r. r.name) (renamed_row (arc_value name)) new (λ t. t.name) test
            (λ x. refl) rows h.tests at le a.2 named.tests
            ∙ ap (λ (n : ℕ). map (λ t. t.name) (put_at n test h.tests)) a.0);
        models = named.models;
      }
  edit_named whole (PutTest at name) (made.DropTest index) a = absurd a
  edit_named whole (PutTest at name) (made.PutModel index model next) a = absurd a
  edit_named whole (PutTest at name) (made.DropModel index) a = absurd a
  edit_named whole (DropTest at) (made.PutTest index test) a = absurd a
  edit_named whole (DropTest at) (made.DropTest index) a = record {
    tests = opened_names cells (remove rows at)
        ∙ (map-remove (λ r. r.name) rows at
        ∙ (ap (λ ns. remove ns at) named.tests
        ∙ (sym (map-remove (λ t. t.name) h.tests at)
        ∙ ap (λ (n : ℕ). map (λ t. t.name) (remove h.tests n)) a.0)));
    models = named.models;
  }
  edit_named whole (DropTest at) (made.PutModel index model next) a = absurd a
  edit_named whole (DropTest at) (made.DropModel index) a = absurd a
  edit_named whole (PutModel at name items) (made.PutTest index test) a = absurd a
  edit_named whole (PutModel at name items) (made.DropTest index) a = absurd a
  edit_named whole (PutModel at name items) (made.PutModel index model next) a =
      let le : at ≤ length columns = omega (arith, a.1, as_many (λ c. c.name) (λ m. m.name) columns h.models named.models) in
      let new : ColumnContent = record { name = arc_value name; items = (arc_value items).items } in
      record {
        tests =
            opened_names cells (rows_after (PutModel at name items) columns rows)
            ∙ (wider_names (nat_lt at (length columns)) rows ∙ named.tests);
        models =
            put_names (λ c. c.name) (λ _. new) new (λ m. m.name) model (λ x. refl) columns h.models
            at le a.2 named.models
            ∙ ap (λ (n : ℕ). map (λ m. m.name) (put_at n model h.models)) a.0;
      }
  edit_named whole (PutModel at name items) (made.DropModel index) a = absurd a
  edit_named whole (DropModel at) (made.PutTest index test) a = absurd a
  edit_named whole (DropModel at) (made.DropTest index) a = absurd a
  edit_named whole (DropModel at) (made.PutModel index model next) a = absurd a
  edit_named whole (DropModel at) (made.DropModel index) a = record {
    tests = opened_names cells (map (narrower_row at) rows) ∙ (narrow_names at rows ∙ named.tests);
    models =
        map-remove (λ c. c.name) columns at
        ∙ (ap (λ ns. remove ns at) named.models
        ∙ (sym (map-remove (λ m. m.name) h.models at)
        ∙ ap (λ (n : ℕ). map (λ m. m.name) (remove h.models n)) a.0));
  }

step_named : (b : BoardContent) (h : TestsAndModels) (last : ℕ) (op : BoardOp) → MayFollow h last op
    → IsNamed b.rows b.columns h
    → IsNamed (after_operation b op).rows (after_operation b op).columns (tests_and_models_after h op)
step_named b h last (Edit edit) may named =
    edit_named h b.rows b.columns named edit.reached.items edit.prepared.value.whole edit.change
    edit.prepared.value.replacement may.1
step_named b h last (Settle at outcome) may named = record {
  tests =
      map-kept (λ r. r.name) (with_cell at.model (Some (arc_value outcome))) (λ r. refl) b.rows
      at.test ∙ named.tests;
  models = named.models;
}

pub names_from : (ops : List BoardOp) (b : BoardContent) (h : TestsAndModels) (last : ℕ)
    → LegalFrom h last ops → IsNamed b.rows b.columns h
    → IsNamed (fold after_operation b ops).rows (fold after_operation b ops).columns
    (fold tests_and_models_after h ops)
names_from [] b h last l named = named
names_from (op ∷ ops) b h last l named =
    names_from ops (after_operation b op) (tests_and_models_after h op) (number_after last op) l.1
    (step_named b h last op l.0 named)

-- ---- parts of legal lists

pub beginning_is_legal : (ops others : List BoardOp) (h : TestsAndModels) (last : ℕ)
    → LegalFrom h last (ops ++ others) → LegalFrom h last ops
beginning_is_legal [] others h last l = tt
beginning_is_legal (op ∷ ops) others h last l =
    (l.0, beginning_is_legal ops others (tests_and_models_after h op) (number_after last op) l.1)

pub one_more_is_legal : (ops : List BoardOp) (op : BoardOp) (h : TestsAndModels) (last : ℕ)
    → LegalFrom h last ops → MayFollow (fold tests_and_models_after h ops) (fold number_after last ops) op
    → LegalFrom h last (ops ++ op ∷ [])
one_more_is_legal [] op h last l may = (may, tt)
one_more_is_legal (o ∷ ops) op h last l may =
    (l.0, one_more_is_legal ops op (tests_and_models_after h o) (number_after last o) l.1 may)
