-- What the calls owe of the cells of a board, by their indexes.
use Rattle.std.proofs.Common.{◌≡◌, true, false, Bool, ℕ, zero, suc, ◌*◌, ◌<◌, ◌^◌, List, [], ◌∷◌, Option, Some, None, length, map}
use Rattle.std.proofs.Common.{refl, sym, ap, subst, ◌∙◌, arith}
use Rattle.std.specs.Prelude.{nat_lt, if◌then◌else◌, slice_get, IsSome, IfSome, IfNone, SomeIff}
use Rattle.std.proofs.Math.Nat.{mul-zero}
use Rattle.std.proofs.lemmas.Bool.{ltb-true}
use Rattle.std.proofs.lemmas.Option.{same_Some}
use Rattle.text_values.specs.declared.test.Test.{Test}
use Rattle.text_values.specs.TestValue.{content_of}
use Rattle.outcome_states.specs.declared.answer.Outcome.{Outcome}
use Rattle.bench_texts.specs.BenchTexts.{BenchTexts, no_texts}
use Rattle.bench_texts.specs.Held.{texts_of}
use Rattle.bench_texts.specs.Held as plain
use Rattle.bench_texts.specs.declared.texts.Texts.{Texts as HeldTexts}
use Rattle.bench_texts.specs.declared.prepared.Prepared.{Prepared}
use Rattle.bench_texts.specs.declared.model.NamedModel.{NamedModel}
use Rattle.outcome_texts.specs.Cells.{Cell, NoCell, Open, Settled, cell_of}
use Rattle.outcome_texts.specs.declared.cell.Shown.{Shown}
use Rattle.outcome_texts.specs.declared.cell.Shown.TheVariants as shown
use Rattle.desk_ledger.specs.Boards.{BoardCell, open_of}
use Rattle.desk_ledger.specs.declared.texts.CellNames.{CellNames}
use Rattle.board.specs.declared.operation.CellIndex.{CellIndex}
use Rattle.board.specs.declared.operation.BoardEdit.{BoardEdit}
use Rattle.board.specs.declared.operation.BoardOp.TheVariants as ops
use Rattle.board.specs.Legal.{TestsAndModels, tests_and_models}
use Rattle.board.specs.Contents.{RowContent, ColumnContent, BoardContent, cell_at, cells_of, shown_cell}
use Rattle.bench_instance.specs.declared.stamped_texts.PreparedEdit.{PreparedEdit}
use Rattle.bench_instance.specs.declared.stamped_texts.StampedTexts.{StampedTexts}
use Rattle.bench_instance.specs.Cells.{cell_with, all_cells, IsCountable, board_cells, IsCellIndexOf, IsNamedAt, HasNoNames}
use Rattle.bench_instance.specs.Lemmas.Listing.{are_all, all_length, all_get, cell_of_row, row_cell, outcome_at}
use Rattle.bench_instance.specs.Texts.{AreAfter, MayFollowBelow, IsAnnounced}

-- ---- how many cells

count_of_all : (b : BoardContent) → IsCountable b
    → length b.rows * length b.columns ≡ length (board_cells b)
count_of_all b countable = sym (ap length (are_all b countable) ∙ all_length b.columns b.rows)

countable_by : (b : BoardContent) (index : ℕ) (few : Bool)
    → nat_lt (length b.rows * length b.columns) (2 ^ 64) ≡ few
    → index < length (if few then all_cells b.columns b.rows else []) → IsCountable b
countable_by b index true e lt = ltb-true (length b.rows * length b.columns) (2 ^ 64) e
countable_by b index false e lt = absurd (omega (arith, lt))

pub is_countable : (b : BoardContent) (index : ℕ) → index < length (board_cells b) → IsCountable b
is_countable b index lt =
    countable_by b index (nat_lt (length b.rows * length b.columns) (2 ^ 64)) refl lt

some_by : (n m : ℕ) (index : ℕ) → index < n * m → 0 < m
some_by n zero index lt = let z = mul-zero n in absurd (omega (arith, z, lt))
some_by n (suc m) index lt = omega arith

pub has_models : (b : BoardContent) (index : ℕ) → index < length (board_cells b)
    → 0 < length b.columns
has_models b index lt =
    let e = count_of_all b (is_countable b index lt) in
    some_by (length b.rows) (length b.columns) index (subst (λ (n : ℕ). index < n) (sym e) lt)

-- the product of the two counts, which was tested
pub count_is_all : (b : BoardContent) (m n : ℕ) (r : Option ℕ) (count : ℕ)
    → m ≡ length b.rows → n ≡ length b.columns → r ≡ Some count → SomeIff r (m * n < 2 ^ 64) (m * n)
    → count ≡ length (board_cells b)
count_is_all b m n r count rows columns is made =
    let given : SomeIff (Some count) (m * n < 2 ^ 64) (m * n) = subst (λ (x : Option ℕ). SomeIff x (m * n < 2 ^ 64) (m * n)) is made in
    let same : m * n ≡ length b.rows * length b.columns =
    ap (λ (k : ℕ). k * n) rows ∙ ap (λ (k : ℕ). length b.rows * k) columns in
    given.1 ∙ (same ∙ count_of_all b (subst (λ (k : ℕ). k < 2 ^ 64) same given.0))

-- ---- what is shown

-- the cell is not settled
abbrev pub IsOpenCell : Cell → Type 0
IsOpenCell NoCell = Unit {0}
IsOpenCell Open = Unit {0}
IsOpenCell (Settled o) = ⊥

pub none_shown : (x : Option (Option Outcome)) (s : Shown) → cell_of s ≡ shown_cell x
    → s ≡ shown.NoCell → IsOpenCell (shown_cell x)
none_shown x s h e = subst IsOpenCell (sym (ap cell_of e) ∙ h) tt

pub open_shown : (x : Option (Option Outcome)) (s : Shown) → cell_of s ≡ shown_cell x
    → s ≡ shown.Open → IsOpenCell (shown_cell x)
open_shown x s h e = subst IsOpenCell (sym (ap cell_of e) ∙ h) tt

outcome_open : (os : List (Option Outcome)) (j : ℕ) → IsOpenCell (shown_cell (slice_get os j))
    → outcome_at os j ≡ None
outcome_open [] j h = refl
outcome_open (None ∷ os) zero h = refl
outcome_open (Some o ∷ os) zero h = absurd h
outcome_open (o ∷ os) (suc j) h = outcome_open os j h

outcome_settled : (os : List (Option Outcome)) (j : ℕ) (o : Outcome)
    → shown_cell (slice_get os j) ≡ Settled o → IsSome (outcome_at os j)
outcome_settled [] j o h = cc
outcome_settled (None ∷ os) zero o h = cc
outcome_settled (Some p ∷ os) zero o h = refl
outcome_settled (p ∷ os) (suc j) o h = outcome_settled os j o h

-- ---- the cell of a row

settled_by : (columns : List ColumnContent) (row : Option RowContent) (j : ℕ) (o : Outcome)
    (c : BoardCell Outcome)
    → shown_cell (slice_get (cells_of row) j) ≡ Settled o → cell_of_row columns row j ≡ Some c
    → IsSome c.outcome
settled_by columns None j o c h e = cc
settled_by columns (Some r) j o c h e = by_column (slice_get columns j) e
  where
    by_column : (m : Option ColumnContent) → row_cell r.name m (outcome_at r.cells j) ≡ Some c
        → IsSome c.outcome
    by_column None f = cc
    by_column (Some m) f =
        let same = same_Some (cell_with r.name m.name (outcome_at r.cells j)) c f in
        subst (λ (x : Option Outcome). IsSome x) (ap (λ (k : BoardCell Outcome). k.outcome) same)
        (outcome_settled r.cells j o h)

-- without a row or a column at its indexes there is no cell
here_by : (columns : List ColumnContent) (row : Option RowContent) (j : ℕ) (c : BoardCell Outcome)
    → cell_of_row columns row j ≡ Some c
    → ((r : RowContent) (m : ColumnContent) → row ≡ Some r → slice_get columns j ≡ Some m → ⊥) → ⊥
here_by columns None j c e missing = cc
here_by columns (Some r) j c e missing = by_column (slice_get columns j) e (missing r)
  where
    by_column : (m : Option ColumnContent) → row_cell r.name m (outcome_at r.cells j) ≡ Some c
        → ((k : ColumnContent) → Some r ≡ Some r → m ≡ Some k → ⊥) → ⊥
    by_column None f n = cc
    by_column (Some m) f n = n m refl refl

-- ---- the cell that the desk counts so

module _ (b : BoardContent) (index : ℕ) (at : CellIndex) (lt : index < length (board_cells b))
    (is : IsCellIndexOf b index at) where
  cell_at_index : slice_get (board_cells b) index
      ≡ cell_of_row b.columns (slice_get b.rows at.test) at.model
  cell_at_index =
      ap (λ (cs : List (BoardCell Outcome)). slice_get cs index)
      (are_all b (is_countable b index lt))
      ∙ (ap (λ (k : ℕ). slice_get (all_cells b.columns b.rows) k) is.0
      ∙ all_get b.columns b.rows at.test at.model is.1)

  open_here : (test model : List ℕ) → IsOpenCell (shown_cell (cell_at b.rows at.test at.model))
      → IsNamedAt b at test model
      → slice_get (board_cells b) index ≡ Some (open_of test model)
  open_here test model unsettled n =
      let there : shown_cell (cell_at b.rows at.test at.model) ≡ shown_cell (slice_get n.row.cells at.model) =
      ap (λ (r : Option RowContent). shown_cell (slice_get (cells_of r) at.model)) n.row_there in
      let o = outcome_open n.row.cells at.model (subst IsOpenCell there unsettled) in
      cell_at_index
      ∙ (ap (λ (r : Option RowContent). cell_of_row b.columns r at.model) n.row_there
      ∙ (ap (λ (c : Option ColumnContent). row_cell n.row.name c (outcome_at n.row.cells at.model))
      n.column_there
      ∙ (ap (λ (x : Option Outcome). row_cell n.row.name (Some n.column) x) o
      ∙ (ap (λ (t : List ℕ). Some (open_of {O = Outcome} t n.column.name)) n.row_named
      ∙ ap (λ (m : List ℕ). Some (open_of {O = Outcome} test m)) n.column_named))))

  pub settled_here : (o : Outcome) (c : BoardCell Outcome)
      → shown_cell (cell_at b.rows at.test at.model) ≡ Settled o
      → slice_get (board_cells b) index ≡ Some c → IsSome c.outcome
  settled_here o c h there =
      settled_by b.columns (slice_get b.rows at.test) at.model o c h (sym cell_at_index ∙ there)

  no_names : (c : BoardCell Outcome) → HasNoNames b at → slice_get (board_cells b) index ≡ Some c
      → IsSome c.outcome
  no_names c missing there =
      absurd (here_by b.columns (slice_get b.rows at.test) at.model c (sym cell_at_index ∙ there)
      missing)

  pub open_names : (r : Option CellNames)
      → IsOpenCell (shown_cell (cell_at b.rows at.test at.model))
      → IfSome r (λ c. IsNamedAt b at c.test.now c.model.now)
      → IfSome r (λ c. slice_get (board_cells b) index
      ≡ Some (open_of {O = Outcome} c.test.now c.model.now))
  open_names None unsettled n = tt
  open_names (Some c) unsettled n = open_here c.test.now c.model.now unsettled n

  pub settled_names : (r : Option CellNames) → IfNone r (HasNoNames b at)
      → IfNone r ((c : BoardCell Outcome) → slice_get (board_cells b) index ≡ Some c
      → IsSome c.outcome)
  settled_names None n = λ c there. no_names c n there
  settled_names (Some c) n = tt

-- ---- texts without tests and models

none_of : {A B : Type 0} (f : A → B) (xs : List A) → map f xs ≡ [] → xs ≡ []
none_of f [] e = refl
none_of f (x ∷ xs) e = cc

abbrev held : List Test → List NamedModel → TestsAndModels
held ts ms = record { tests = ts; models = ms }

pub after_nothing : (t : StampedTexts) → texts_of t.texts ≡ no_texts → AreAfter t []
after_nothing t e =
    let tests : t.texts.tests.items ≡ [] = none_of content_of t.texts.tests.items (ap (λ (x : BenchTexts). x.tests) e) in
    let models : t.texts.models.items ≡ [] = none_of plain.plain_model t.texts.models.items (ap (λ (x : BenchTexts). x.models) e) in
    record {
      held = ap (λ (ts : List Test). held ts t.texts.models.items) tests ∙ ap (held []) models;
      contents = e;
      names = record { tests = refl; models = refl };
      few_tests = omega arith;
      few_models = omega arith;
    }

-- ---- the operation of an edit

pub is_announced : (t : StampedTexts) (p : PreparedEdit) (number : ℕ) (e : BoardEdit)
    (texts : HeldTexts) (prepared : Prepared)
    → texts ≡ t.texts → prepared ≡ p.texts → e.number ≡ number → e.prepared.value ≡ prepared
    → MayFollowBelow (tests_and_models texts) number (ops.Edit e) → IsAnnounced t p number (ops.Edit e)
is_announced t p number e texts prepared here same numbered made follows = (
  numbered,
  made ∙ same,
  subst (λ (x : HeldTexts). MayFollowBelow (tests_and_models x) number (ops.Edit e)) here follows,
)
