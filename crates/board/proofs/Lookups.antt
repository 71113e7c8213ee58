-- What a cell is after a change of the rows.
use Rattle.std.proofs.Common.{◌≡◌, ℕ, zero, suc, ◌+◌, ◌<◌, ◌≤◌, ◌⊎◌, inl, inr, List, [], ◌∷◌, ◌++◌, length, map, max, Option, Some, None, Bool, true, false, refl, sym, ap, ◌∙◌, subst, arith}
use Rattle.std.specs.Prelude.{slice_get, remove, fold, Contains, if◌then◌else◌, ◌==◌, nat_lt}
use Rattle.std.proofs.lemmas.Option.{none-some}
use Rattle.std.proofs.lemmas.Bool.{eqb-true, eqb-false, ltb-true, ltb-false}
use Rattle.std.proofs.lemmas.List.{length-append}
use Rattle.outcome_states.specs.declared.answer.Outcome.{Outcome}
use Rattle.bench_texts.specs.BenchTexts.{changed_at, put_at}
use Rattle.bench_texts.proofs.Lists.{length-changed_at}
use Rattle.board.specs.declared.operation.CellIndex.{CellIndex}
use Rattle.board.specs.Contents.{RowContent, ColumnContent, cells_of, cell_at}
use Rattle.board.specs.Operations.{with_cell, renamed_row, put_cell, open_cell, open_row, wider_row, narrower_row}

-- ---- lists

deeper : (k i : ℕ) (P Q : Type 0) → ((k ≡ i) × P) ⊎ Q → ((suc k ≡ suc i) × P) ⊎ Q
deeper k i P Q (inl h) = inl (ap suc h.0, h.1)
deeper k i P Q (inr h) = inr h

changed_cases : {A : Type 0} (c : A) (i : ℕ) (xs : List A) (k : ℕ) (x : A)
    → slice_get (changed_at i (λ _. c) xs) k ≡ Some x
    → ((k ≡ i) × (x ≡ c)) ⊎ (slice_get xs k ≡ Some x)
changed_cases c i [] k x h = inr h
changed_cases c zero (y ∷ ys) zero x h = inl (refl, (cc))
changed_cases c zero (y ∷ ys) (suc k) x h = inr h
changed_cases c (suc i) (y ∷ ys) zero x h = inr h
changed_cases c (suc i) (y ∷ ys) (suc k) x h =
    deeper k i (x ≡ c) (slice_get ys k ≡ Some x) (changed_cases c i ys k x h)

changed_here : {A : Type 0} (c : A) (i : ℕ) (xs : List A) (x : A)
    → slice_get (changed_at i (λ _. c) xs) i ≡ Some x → x ≡ c
changed_here c i [] x h = absurd (none-some x h)
changed_here c zero (y ∷ ys) x h = cc
changed_here c (suc i) (y ∷ ys) x h = changed_here c i ys x h

-- the index before an element was removed
abbrev pub skip : ℕ → ℕ → ℕ
skip zero k = suc k
skip (suc i) zero = zero
skip (suc i) (suc k) = suc (skip i k)

pub get_removed : {A : Type 0} (xs : List A) (i k : ℕ)
    → slice_get (remove xs i) k ≡ slice_get xs (skip i k)
get_removed [] zero k = refl
get_removed [] (suc i) k = refl
get_removed (x ∷ xs) zero k = refl
get_removed (x ∷ xs) (suc i) zero = refl
get_removed (x ∷ xs) (suc i) (suc k) = get_removed xs i k

placed_here : {A : Type 0} (x : A) (at : ℕ) (xs : List A) → at ≤ length xs
    → slice_get (put_at at x xs) at ≡ Some x
placed_here x zero [] le = refl
placed_here x (suc at) [] le = absurd (omega arith)
placed_here x zero (y ∷ ys) le = refl
placed_here x (suc at) (y ∷ ys) le = placed_here x at ys (omega arith)

placed_other : {A : Type 0} (x : A) (at : ℕ) (xs : List A) (k : ℕ) → at ≤ length xs → (k ≡ at → ⊥)
    → slice_get (put_at at x xs) k ≡ slice_get xs k
placed_other x zero [] zero le ne = absurd (ne refl)
placed_other x zero [] (suc k) le ne = refl
placed_other x (suc at) [] k le ne = absurd (omega arith)
placed_other x zero (y ∷ ys) zero le ne = absurd (ne refl)
placed_other x zero (y ∷ ys) (suc k) le ne = refl
placed_other x (suc at) (y ∷ ys) zero le ne = refl
placed_other x (suc at) (y ∷ ys) (suc k) le ne =
    placed_other x at ys k (omega arith) (λ e. ne (ap suc e))

placed_by : {A : Type 0} (x : A) (at : ℕ) (xs : List A) (k : ℕ) (b : Bool) → (k == at) ≡ b
    → at ≤ length xs → slice_get (put_at at x xs) k ≡ (if b then Some x else slice_get xs k)
placed_by x at xs k true e le =
    ap (λ (n : ℕ). slice_get (put_at at x xs) n) (eqb-true k at e) ∙ placed_here x at xs le
placed_by x at xs k false e le = placed_other x at xs k le (eqb-false k at e)

-- an element of the list with x at that index
pub placed : {A : Type 0} (x : A) (at : ℕ) (xs : List A) (k : ℕ) → at ≤ length xs
    → slice_get (put_at at x xs) k ≡ (if k == at then Some x else slice_get xs k)
placed x at xs k le = placed_by x at xs k (k == at) refl le

count_by : {A : Type 0} (xs ys : List A) (x : A) (at : ℕ) (b : Bool) → nat_lt at (length xs) ≡ b
    → length ys ≡ length xs → at ≤ length xs
    → length (if b then ys else xs ++ x ∷ []) ≡ max (length xs) (at + 1)
count_by xs ys x at true e same le =
    let l : at < length xs = ltb-true at (length xs) e in omega arith
count_by xs ys x at false e same le =
    let l : length xs ≤ at = ltb-false at (length xs) e in omega (arith, length-append xs (x ∷ []))

-- how many there are, where one was added behind the last
pub count_put : {A : Type 0} (xs ys : List A) (x : A) (at : ℕ) → length ys ≡ length xs
    → at ≤ length xs
    → length (if nat_lt at (length xs) then ys else xs ++ x ∷ []) ≡ max (length xs) (at + 1)
count_put xs ys x at same le = count_by xs ys x at (nat_lt at (length xs)) refl same le

-- ---- cells

pub put_cases : (j : ℕ) (c : Option Outcome) (i : ℕ) (rows : List RowContent) (k l : ℕ)
    (x : Option Outcome) → cell_at (put_cell i j c rows) k l ≡ Some x
    → ((k ≡ i) × (l ≡ j) × (x ≡ c)) ⊎ (cell_at rows k l ≡ Some x)
put_cases j c i [] k l x h = inr h
put_cases j c zero (r ∷ rs) zero l x h =
    elim (changed_cases c j r.cells l x h) [ inl e ↦ inl (refl, e.0, e.1) | inr q ↦ inr q ]
put_cases j c zero (r ∷ rs) (suc k) l x h = inr h
put_cases j c (suc i) (r ∷ rs) zero l x h = inr h
put_cases j c (suc i) (r ∷ rs) (suc k) l x h =
    elim (put_cases j c i rs k l x h) [ inl e ↦ inl (ap suc e.0, e.1, e.2) | inr q ↦ inr q ]

put_here : (j : ℕ) (c : Option Outcome) (i : ℕ) (rows : List RowContent) (x : Option Outcome)
    → cell_at (put_cell i j c rows) i j ≡ Some x → x ≡ c
put_here j c i [] x h = absurd (none-some x h)
put_here j c zero (r ∷ rs) x h = changed_here c j r.cells x h
put_here j c (suc i) (r ∷ rs) x h = put_here j c i rs x h

still_settled : (j i : ℕ) (rows : List RowContent) (k l : ℕ) (o : Outcome)
    → cell_at (put_cell i j None rows) k l ≡ Some (Some o) → cell_at rows k l ≡ Some (Some o)
still_settled j i rows k l o h =
    elim (put_cases j None i rows k l (Some o) h)
    [ inl e ↦ absurd (none-some o (sym e.2)) | inr q ↦ q ]

not_opened : (rows : List RowContent) (c at : CellIndex) (o : Outcome) → c ≡ at
    → cell_at (open_cell rows c) at.test at.model ≡ Some (Some o) → ⊥
not_opened rows c at o e h =
    let here : cell_at (open_cell rows c) c.test c.model ≡ Some (Some o) = subst (λ (p : CellIndex). cell_at (open_cell rows c) p.test p.model ≡ Some (Some o)) (sym e) h in
    none-some o (sym (put_here c.model None c.test rows (Some o) here))

not_among : (c : CellIndex) (cs : List CellIndex) (at : CellIndex) → (c ≡ at → ⊥)
    → (Contains cs at → ⊥) → Contains (c ∷ cs) at → ⊥
not_among c cs at first others (zero, lt, e) = first e
not_among c cs at first others (suc k, lt, e) = others (k, omega arith, e)

-- a cell that is settled after some were opened was so before, and is none of them
pub opened_cell : (cells : List CellIndex) (rows : List RowContent) (at : CellIndex) (o : Outcome)
    → cell_at (fold open_cell rows cells) at.test at.model ≡ Some (Some o)
    → (cell_at rows at.test at.model ≡ Some (Some o)) × (Contains cells at → ⊥)
opened_cell [] rows at o h = (h, λ c. absurd (omega (arith, c.1)))
opened_cell (c ∷ cs) rows at o h =
    let r = opened_cell cs (open_cell rows c) at o h in (
      still_settled c.model c.test rows at.test at.model o r.0,
      not_among c cs at (λ e. not_opened rows c at o e r.0) r.1,
    )

pub opened_count : (cells : List CellIndex) (rows : List RowContent)
    → length (fold open_cell rows cells) ≡ length rows
opened_count [] rows = refl
opened_count (c ∷ cs) rows =
    opened_count cs (open_cell rows c) ∙ length-changed_at (with_cell c.model None) rows c.test

pub narrow_cell : (m : ℕ) (rows : List RowContent) (i j : ℕ)
    → cell_at (map (narrower_row m) rows) i j ≡ cell_at rows i (skip m j)
narrow_cell m [] i j = refl
narrow_cell m (r ∷ rs) zero j = get_removed r.cells m j
narrow_cell m (r ∷ rs) (suc i) j = narrow_cell m rs i j

pub dropped_row : (t : ℕ) (rows : List RowContent) (i j : ℕ)
    → cell_at (remove rows t) i j ≡ cell_at rows (skip t i) j
dropped_row t rows i j =
    ap (λ (o : Option RowContent). slice_get (cells_of o) j) (get_removed rows t i)

pushed_open : (cs : List (Option Outcome)) (j : ℕ) (o : Outcome)
    → slice_get (cs ++ None ∷ []) j ≡ Some (Some o) → slice_get cs j ≡ Some (Some o)
pushed_open [] zero o h = cc
pushed_open [] (suc j) o h = h
pushed_open (c ∷ cs) zero o h = h
pushed_open (c ∷ cs) (suc j) o h = pushed_open cs j o h

wide_cell : (rows : List RowContent) (i j : ℕ) (o : Outcome)
    → cell_at (map wider_row rows) i j ≡ Some (Some o) → cell_at rows i j ≡ Some (Some o)
wide_cell [] i j o h = h
wide_cell (r ∷ rs) zero j o h = pushed_open r.cells j o h
wide_cell (r ∷ rs) (suc i) j o h = wide_cell rs i j o h

pub wider_cell : (b : Bool) (rows : List RowContent) (i j : ℕ) (o : Outcome)
    → cell_at (if b then rows else map wider_row rows) i j ≡ Some (Some o)
    → cell_at rows i j ≡ Some (Some o)
wider_cell true rows i j o h = h
wider_cell false rows i j o h = wide_cell rows i j o h

mapped_count : (rows : List RowContent) → length (map wider_row rows) ≡ length rows
mapped_count [] = refl
mapped_count (r ∷ rs) = ap suc (mapped_count rs)

pub wider_count : (b : Bool) (rows : List RowContent)
    → length (if b then rows else map wider_row rows) ≡ length rows
wider_count true rows = refl
wider_count false rows = mapped_count rows

pub narrow_count : (m : ℕ) (rows : List RowContent)
    → length (map (narrower_row m) rows) ≡ length rows
narrow_count m [] = refl
narrow_count m (r ∷ rs) = ap suc (narrow_count m rs)

none_settled : (columns : List ColumnContent) (j : ℕ) (o : Outcome)
    → slice_get (open_row [] columns).cells j ≡ Some (Some o) → ⊥
none_settled [] j o h = none-some (Some o) h
none_settled (c ∷ cs) zero o h = cc
none_settled (c ∷ cs) (suc j) o h = none_settled cs j o h

new_cell : (name : List ℕ) (columns : List ColumnContent) (rows : List RowContent) (i j : ℕ)
    (o : Outcome) → cell_at (rows ++ open_row name columns ∷ []) i j ≡ Some (Some o)
    → cell_at rows i j ≡ Some (Some o)
new_cell name columns [] zero j o h = absurd (none_settled columns j o h)
new_cell name columns [] (suc i) j o h = h
new_cell name columns (r ∷ rs) zero j o h = h
new_cell name columns (r ∷ rs) (suc i) j o h = new_cell name columns rs i j o h

named_cell : (name : List ℕ) (at : ℕ) (rows : List RowContent) (i j : ℕ)
    → cell_at (changed_at at (renamed_row name) rows) i j ≡ cell_at rows i j
named_cell name at [] i j = refl
named_cell name zero (r ∷ rs) zero j = refl
named_cell name zero (r ∷ rs) (suc i) j = refl
named_cell name (suc at) (r ∷ rs) zero j = refl
named_cell name (suc at) (r ∷ rs) (suc i) j = named_cell name at rs i j

pub longer_cell : (b : Bool) (name : List ℕ) (at : ℕ) (columns : List ColumnContent)
    (rows : List RowContent) (i j : ℕ) (o : Outcome)
    → cell_at
    (if b then changed_at at (renamed_row name) rows else rows ++ open_row name columns ∷ [])
    i j ≡ Some (Some o) → cell_at rows i j ≡ Some (Some o)
longer_cell true name at columns rows i j o h = sym (named_cell name at rows i j) ∙ h
longer_cell false name at columns rows i j o h = new_cell name columns rows i j o h
