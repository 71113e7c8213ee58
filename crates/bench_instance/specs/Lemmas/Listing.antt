-- What the list of the cells of a board has at an index, and what it is after a cell is settled.
use Rattle.std.proofs.Common.{◌≡◌, true, false, Bool, ℕ, zero, suc, ◌*◌, ◌+◌, ◌<◌, ◌^◌, List, [], ◌∷◌, ◌++◌, Option, Some, None, length}
use Rattle.std.proofs.Common.{refl, sym, ap, subst, ◌∙◌, arith}
use Rattle.std.specs.Prelude.{nat_lt, if◌then◌else◌, slice_get}
use Rattle.std.proofs.Math.Nat.{suc-mul, zero-mul}
use Rattle.std.proofs.lemmas.Bool.{ltb-false}
use Rattle.std.proofs.lemmas.Option.{none-some}
use Rattle.std.proofs.lemmas.List.{length-append}
use Rattle.outcome_states.specs.declared.answer.Outcome.{Outcome}
use Rattle.bench_texts.specs.BenchTexts.{changed_at}
use Rattle.bench_nodes.proofs.Lists.{get_left, get_right}
use Rattle.desk_ledger.specs.Boards.{BoardCell, with_outcome}
use Rattle.board.specs.Contents.{RowContent, ColumnContent, BoardContent, cell_at}
use Rattle.board.specs.Operations.{put_cell}
use Rattle.bench_instance.specs.Cells.{cell_with, row_cells, all_cells, IsCountable, board_cells}

-- ---- the board lists all its cells

all_by : (b : BoardContent) (few : Bool) → nat_lt (length b.rows * length b.columns) (2 ^ 64) ≡ few
    → IsCountable b → (if few then all_cells b.columns b.rows else []) ≡ all_cells b.columns b.rows
all_by b true e countable = refl
all_by b false e countable =
    let less : length b.rows * length b.columns < 2 ^ 64 = countable in
    let over = ltb-false (length b.rows * length b.columns) (2 ^ 64) e in
    absurd (omega (arith, less, over))

pub are_all : (b : BoardContent) → IsCountable b → board_cells b ≡ all_cells b.columns b.rows
are_all b countable = all_by b (nat_lt (length b.rows * length b.columns) (2 ^ 64)) refl countable

-- ---- lengths

pub row_length : (test : List ℕ) (columns : List ColumnContent) (os : List (Option Outcome))
    → length (row_cells test columns os) ≡ length columns
row_length test [] os = refl
row_length test (c ∷ cs) [] = ap suc (row_length test cs [])
row_length test (c ∷ cs) (o ∷ os) = ap suc (row_length test cs os)

exchange : (a b : ℕ) → a + b ≡ b + a
exchange a b = omega arith

pub all_length : (columns : List ColumnContent) (rows : List RowContent)
    → length (all_cells columns rows) ≡ length rows * length columns
all_length columns [] = sym (zero-mul (length columns))
all_length columns (r ∷ rs) =
    length-append (row_cells r.name columns r.cells) (all_cells columns rs)
    ∙ (ap (λ (n : ℕ). n + length (all_cells columns rs)) (row_length r.name columns r.cells)
    ∙ (ap (λ (n : ℕ). length columns + n) (all_length columns rs)
    ∙ (exchange (length columns) (length rs * length columns) ∙ sym
    (suc-mul (length rs) (length columns)))))

-- ---- indexes

none_first : (n : ℕ) (j : ℕ) → 0 * n + j ≡ j
none_first n j = let z = zero-mul n in omega (arith, z)

shift : (a b c : ℕ) → (a + b) + c ≡ b + (a + c)
shift a b c = omega arith

one_row_more : (n i j : ℕ) → suc i * n + j ≡ n + (i * n + j)
one_row_more n i j = ap (λ (k : ℕ). k + j) (suc-mul i n) ∙ shift (i * n) n j

past_row : (columns : List ColumnContent) (r : RowContent) (i j : ℕ)
    → suc i * length columns + j
    ≡ length (row_cells r.name columns r.cells) + (i * length columns + j)
past_row columns r i j =
    one_row_more (length columns) i j ∙ ap (λ (n : ℕ). n + (i * length columns + j))
    (sym (row_length r.name columns r.cells))

in_row : (columns : List ColumnContent) (r : RowContent) (j : ℕ) → j < length columns
    → j < length (row_cells r.name columns r.cells)
in_row columns r j lt = subst (λ (n : ℕ). j < n) (sym (row_length r.name columns r.cells)) lt

-- ---- the cell at an index

-- what a row has at an index: nothing where it is too short
abbrev pub outcome_at : List (Option Outcome) → ℕ → Option Outcome
outcome_at [] j = None
outcome_at (o ∷ os) zero = o
outcome_at (o ∷ os) (suc j) = outcome_at os j

abbrev pub row_cell : List ℕ → Option ColumnContent → Option Outcome → Option (BoardCell Outcome)
row_cell test None o = None
row_cell test (Some c) o = Some (cell_with test c.name o)

abbrev pub cell_of_row : List ColumnContent → Option RowContent → ℕ → Option (BoardCell Outcome)
cell_of_row columns None j = None
cell_of_row columns (Some r) j = row_cell r.name (slice_get columns j) (outcome_at r.cells j)

row_get : (test : List ℕ) (columns : List ColumnContent) (os : List (Option Outcome)) (j : ℕ)
    → slice_get (row_cells test columns os) j
    ≡ row_cell test (slice_get columns j) (outcome_at os j)
row_get test [] os j = refl
row_get test (c ∷ cs) [] zero = refl
row_get test (c ∷ cs) [] (suc j) = row_get test cs [] j
row_get test (c ∷ cs) (o ∷ os) zero = refl
row_get test (c ∷ cs) (o ∷ os) (suc j) = row_get test cs os j

pub all_get : (columns : List ColumnContent) (rows : List RowContent) (i j : ℕ) → j < length columns
    → slice_get (all_cells columns rows) (i * length columns + j)
    ≡ cell_of_row columns (slice_get rows i) j
all_get columns [] i j lt = refl
all_get columns (r ∷ rs) zero j lt =
    let row = row_cells r.name columns r.cells in
    let rest = all_cells columns rs in
    ap (λ (k : ℕ). slice_get (row ++ rest) k) (none_first (length columns) j)
    ∙ (get_left row rest j (in_row columns r j lt) ∙ row_get r.name columns r.cells j)
all_get columns (r ∷ rs) (suc i) j lt =
    let row = row_cells r.name columns r.cells in
    let rest = all_cells columns rs in
    ap (λ (k : ℕ). slice_get (row ++ rest) k) (past_row columns r i j)
    ∙ (get_right row rest (i * length columns + j) ∙ all_get columns rs i j lt)

-- ---- a cell that is settled

with_left : (o : Outcome) (xs ys : List (BoardCell Outcome)) (k : ℕ)
    → k < length xs → with_outcome k o (xs ++ ys) ≡ with_outcome k o xs ++ ys
with_left o [] ys k lt = absurd (omega (arith, lt))
with_left o (x ∷ xs) ys zero lt = refl
with_left o (x ∷ xs) ys (suc k) lt =
    ap (λ (cs : List (BoardCell Outcome)). x ∷ cs) (with_left o xs ys k (omega (arith, lt)))

with_right : (o : Outcome) (xs ys : List (BoardCell Outcome)) (k m : ℕ)
    → m ≡ length xs + k → with_outcome m o (xs ++ ys) ≡ xs ++ with_outcome k o ys
with_right o [] ys k m e = let f : m ≡ k = omega (arith, e) in ap (λ (n : ℕ). with_outcome n o ys) f
with_right o (x ∷ xs) ys k zero e = absurd (omega (arith, e))
with_right o (x ∷ xs) ys k (suc m) e =
    ap (λ (cs : List (BoardCell Outcome)). x ∷ cs) (with_right o xs ys k m (omega (arith, e)))

row_put : (test : List ℕ) (columns : List ColumnContent) (os : List (Option Outcome)) (j : ℕ)
    (o : Outcome) (x : Option Outcome)
    → slice_get os j ≡ Some x
    → row_cells test columns (changed_at j (λ _. Some o) os)
    ≡ with_outcome j o (row_cells test columns os)
row_put test [] os j o x h = refl
row_put test (c ∷ cs) [] j o x h = absurd (none-some x h)
row_put test (c ∷ cs) (p ∷ os) zero o x h = refl
row_put test (c ∷ cs) (p ∷ os) (suc j) o x h =
    ap (λ (ks : List (BoardCell Outcome)). cell_with test c.name p ∷ ks)
    (row_put test cs os j o x h)

pub all_put : (columns : List ColumnContent) (rows : List RowContent) (i j : ℕ) (o : Outcome)
    (x : Option Outcome)
    → j < length columns → cell_at rows i j ≡ Some x
    → all_cells columns (put_cell i j (Some o) rows)
    ≡ with_outcome (i * length columns + j) o (all_cells columns rows)
all_put columns [] i j o x lt h = refl
all_put columns (r ∷ rs) zero j o x lt h =
    let row = row_cells r.name columns r.cells in
    let rest = all_cells columns rs in
    ap (λ (cs : List (BoardCell Outcome)). cs ++ rest) (row_put r.name columns r.cells j o x h)
    ∙ (sym (with_left o row rest j (in_row columns r j lt))
    ∙ ap (λ (k : ℕ). with_outcome k o (row ++ rest)) (sym (none_first (length columns) j)))
all_put columns (r ∷ rs) (suc i) j o x lt h =
    let row = row_cells r.name columns r.cells in
    ap (λ (cs : List (BoardCell Outcome)). row ++ cs) (all_put columns rs i j o x lt h)
    ∙ sym (with_right o row (all_cells columns rs) (i * length columns + j)
    (suc i * length columns + j) (past_row columns r i j))
