-- Names in lists, and the cells of rows that are opened or whose names change.
use Rattle.std.proofs.Common.{◌≡◌, ℕ, zero, suc, ◌+◌, ◌<◌, ◌≤◌, inl, inr, Bool, true, false, List, [], ◌∷◌, ◌++◌, length, map, Option, Some, None, if◌then◌else◌, refl, sym, ap, subst, ◌∙◌, arith}
use Rattle.std.specs.Prelude.{slice_get, remove, fold, Contains, bytes_eq, ◌==◌}
use Rattle.std.proofs.lemmas.Bool.{cases_Bool, eqb-true, eqb-false}
use Rattle.std.proofs.lemmas.Option.{none-some}
use Rattle.outcome_states.specs.declared.answer.Outcome.{Outcome}
use Rattle.memo_core.specs.Step.{Has}
use Rattle.bench_texts.specs.BenchTexts.{changed_at, put_at}
use Rattle.bench_text_laws.specs.Orderly.{AreApart}
use Rattle.bench_text_laws.proofs.Orderly.{named as name_is}
use Rattle.board.specs.declared.operation.CellIndex.{CellIndex}
use Rattle.board.specs.Contents.{RowContent, ColumnContent, cell_at}
use Rattle.board.specs.Operations.{put_cell, open_cell, open_row, wider_row, renamed_row}
use Rattle.board.proofs.Lookups.{skip, get_removed, placed}
use Rattle.board.proofs.ShownNames.{found, past}
use Rattle.board.proofs.Widths.{AreWide}

-- ---- names in lists

pub some_is : {A : Type 0} {a b : A} → Some a ≡ Some b → a ≡ b
some_is e = cc

pub one_more : (n : ℕ) → 1 + n ≡ suc n
one_more n = omega arith

-- what stands at the index of a name has that name
pub found_name : {A : Type 0} (f : A → List ℕ) (wanted : List ℕ) (xs : List A) (x : A)
    → slice_get xs (found f wanted xs) ≡ Some x → f x ≡ wanted
found_name f wanted [] x = λ e. absurd (none-some x e)
found_name f wanted (y ∷ ys) x = elim (cases_Bool (bytes_eq (f y) wanted)) [
  | inl t ↦ rw t (λ e. ap f (sym (some_is e)) ∙ name_is (f y) wanted t)
  | inr t ↦ rw t (λ e. found_name f wanted ys x (ap (slice_get (y ∷ ys))
      (sym (one_more (found f wanted ys))) ∙ e))
]

has_named : {A : Type 0} (f : A → List ℕ) (xs : List A) (i : ℕ) (x : A) → slice_get xs i ≡ Some x
    → Has (map f xs) (f x)
has_named f [] i x e = absurd (none-some x e)
has_named f (y ∷ ys) zero x e = inl (ap f (some_is e))
has_named f (y ∷ ys) (suc i) x e = inr (has_named f ys i x e)

-- where names are apart, what has one name has one index
stands_once : {A : Type 0} (f : A → List ℕ) (xs : List A) (a b : ℕ) (x y : A) → AreApart (map f xs)
    → slice_get xs a ≡ Some x → slice_get xs b ≡ Some y → f x ≡ f y → a ≡ b
stands_once f [] a b x y apart e g same = absurd (none-some x e)
stands_once f (z ∷ zs) zero zero x y apart e g same = refl
stands_once f (z ∷ zs) zero (suc b) x y apart e g same =
    absurd (apart.0 (subst (λ (n : List ℕ). Has (map f zs) n) (sym same ∙ ap f (sym (some_is e)))
    (has_named f zs b y g)))
stands_once f (z ∷ zs) (suc a) zero x y apart e g same =
    absurd (apart.0 (subst (λ (n : List ℕ). Has (map f zs) n) (same ∙ ap f (sym (some_is g)))
    (has_named f zs a x e)))
stands_once f (z ∷ zs) (suc a) (suc b) x y apart e g same =
    ap suc (stands_once f zs a b x y apart.1 e g same)

pub placed_other : {A : Type 0} (new : A) (at : ℕ) (xs : List A) (k : ℕ) → at ≤ length xs
    → (k == at) ≡ false → slice_get (put_at at new xs) k ≡ slice_get xs k
placed_other new at xs k le apart =
    placed new at xs k le ∙ ap (λ (b : Bool). if b then Some new else slice_get xs k) apart

-- what is put keeps the index of a name that is there before and after
pub put_index : {A : Type 0} (f : A → List ℕ) (xs : List A) (at : ℕ) (new : A) (i k : ℕ) (x y : A)
    → at ≤ length xs → AreApart (map f xs) → AreApart (map f (put_at at new xs))
    → slice_get xs i ≡ Some x → slice_get (put_at at new xs) k ≡ Some y → f x ≡ f y → k ≡ i
put_index f xs at new i k x y le before after e g same = elim (cases_Bool (i == at)) [
  | inl here ↦ elim (cases_Bool (k == at)) [
    | inl too ↦ eqb-true k at too ∙ sym (eqb-true i at here)
    | inr apart ↦ stands_once f xs k i y x before (sym (placed_other new at xs k le apart) ∙ g) e
        (sym same)
  ]
  | inr apart ↦ stands_once f (put_at at new xs) k i y x after g
      (placed_other new at xs i le apart ∙ e) (sym same)
]

pub removed_index : {A : Type 0} (f : A → List ℕ) (xs : List A) (at i k : ℕ) (x y : A)
    → AreApart (map f xs) → slice_get xs i ≡ Some x → slice_get (remove xs at) k ≡ Some y
    → f x ≡ f y → skip at k ≡ i
removed_index f xs at i k x y apart e g same =
    stands_once f xs (skip at k) i y x apart (sym (get_removed xs at k) ∙ g) e (sym same)

pub skip_past : (at k : ℕ) → skip at k ≡ at → ⊥
skip_past zero k e = absurd (omega (arith, e))
skip_past (suc at) zero e = absurd (omega (arith, e))
skip_past (suc at) (suc k) e = skip_past at k (omega (arith, e))

-- ---- cells that are opened

changed_other : {A : Type 0} (c : A) (j : ℕ) (xs : List A) (l : ℕ) → (j ≡ l → ⊥)
    → slice_get (changed_at j (λ _. c) xs) l ≡ slice_get xs l
changed_other c j [] l ne = refl
changed_other c zero (y ∷ ys) zero ne = absurd (ne refl)
changed_other c zero (y ∷ ys) (suc l) ne = refl
changed_other c (suc j) (y ∷ ys) zero ne = refl
changed_other c (suc j) (y ∷ ys) (suc l) ne = changed_other c j ys l (λ e. ne (ap suc e))

changed_same : {A : Type 0} (c : A) (j : ℕ) (xs : List A) (x : A) → slice_get xs j ≡ Some x
    → slice_get (changed_at j (λ _. c) xs) j ≡ Some c
changed_same c j [] x e = absurd (none-some x e)
changed_same c zero (y ∷ ys) x e = refl
changed_same c (suc j) (y ∷ ys) x e = changed_same c j ys x e

pub put_other : (j : ℕ) (c : Option Outcome) (i : ℕ) (rows : List RowContent) (k l : ℕ)
    → (i ≡ k → j ≡ l → ⊥) → cell_at (put_cell i j c rows) k l ≡ cell_at rows k l
put_other j c i [] k l ne = refl
put_other j c zero (r ∷ rs) zero l ne = changed_other c j r.cells l (ne refl)
put_other j c zero (r ∷ rs) (suc k) l ne = refl
put_other j c (suc i) (r ∷ rs) zero l ne = refl
put_other j c (suc i) (r ∷ rs) (suc k) l ne = put_other j c i rs k l (λ e f. ne (ap suc e) f)

pub put_same : (j : ℕ) (c : Option Outcome) (i : ℕ) (rows : List RowContent) (x : Option Outcome)
    → cell_at rows i j ≡ Some x → cell_at (put_cell i j c rows) i j ≡ Some c
put_same j c i [] x e = absurd (none-some x e)
put_same j c zero (r ∷ rs) x e = changed_same c j r.cells x e
put_same j c (suc i) (r ∷ rs) x e = put_same j c i rs x e

cell_same : (c at : CellIndex) → c.test ≡ at.test → c.model ≡ at.model → c ≡ at
cell_same c at e f =
    ap (λ (t : ℕ). let k : CellIndex = record { test = t; model = c.model } in k) e ∙ ap
    (λ (m : ℕ). let k : CellIndex = record { test = at.test; model = m } in k) f

-- a cell that is not among those that are opened
pub opened_other : (cells : List CellIndex) (rows : List RowContent) (at : CellIndex)
    → (Contains cells at → ⊥)
    → cell_at (fold open_cell rows cells) at.test at.model ≡ cell_at rows at.test at.model
opened_other [] rows at out = refl
opened_other (c ∷ cs) rows at out =
    opened_other cs (open_cell rows c) at (λ k.
    out (suc k.0, (let lt = k.1 in omega (arith, lt)), k.2))
    ∙ put_other c.model None c.test rows at.test at.model
    (λ e f. out (0, omega arith, cell_same c at e f))

-- an open cell stays open
pub stays_open : (cells : List CellIndex) (rows : List RowContent) (k l : ℕ)
    → cell_at rows k l ≡ Some None → cell_at (fold open_cell rows cells) k l ≡ Some None
stays_open [] rows k l e = e
stays_open (c ∷ cs) rows k l e =
    stays_open cs (open_cell rows c) k l (elim (cases_Bool (c.test == k)) [
      | inl t ↦ elim (cases_Bool (c.model == l)) [
        | inl m ↦ (let tests = eqb-true c.test k t in let models = eqb-true c.model l m in
            subst (λ (n : ℕ). cell_at (open_cell rows c) n l ≡ Some None) tests
            (subst (λ (n : ℕ). cell_at (open_cell rows c) c.test n ≡ Some None) models
            (put_same c.model None c.test rows None (subst
            (λ (n : ℕ). cell_at rows c.test n ≡ Some None) (sym models)
            (subst (λ (n : ℕ). cell_at rows n l ≡ Some None) (sym tests) e)))))
        | inr m ↦ put_other c.model None c.test rows k l (λ f g. eqb-false c.model l m g) ∙ e
      ]
      | inr t ↦ put_other c.model None c.test rows k l (λ f g. eqb-false c.test k t f) ∙ e
    ])

-- a cell that is opened first is open
opened_first : (c : CellIndex) (cs : List CellIndex) (rows : List RowContent) (at : CellIndex)
    (x : Option Outcome) → c ≡ at → cell_at rows at.test at.model ≡ Some x
    → cell_at (fold open_cell rows (c ∷ cs)) at.test at.model ≡ Some None
opened_first c cs rows at x is e =
    stays_open cs (open_cell rows c) at.test at.model
    (subst (λ (p : CellIndex). cell_at (open_cell rows c) p.test p.model ≡ Some None) is
    (put_same c.model None c.test rows x (subst
    (λ (p : CellIndex). cell_at rows p.test p.model ≡ Some x) (sym is) e)))

-- a cell among those that are opened is open
pub opened_here : (cells : List CellIndex) (rows : List RowContent) (at : CellIndex)
    (x : Option Outcome) → Contains cells at → cell_at rows at.test at.model ≡ Some x
    → cell_at (fold open_cell rows cells) at.test at.model ≡ Some None
opened_here [] rows at x k e = absurd (let lt = k.1 in omega (arith, lt))
opened_here (c ∷ cs) rows at x (zero, lt, is) e = opened_first c cs rows at x is e
opened_here (c ∷ cs) rows at x (suc k, lt, is) e = elim (cases_Bool (c.test == at.test)) [
  | inl t ↦ elim (cases_Bool (c.model == at.model)) [
    | inl m ↦ opened_first c cs rows at x
        (cell_same c at (eqb-true c.test at.test t) (eqb-true c.model at.model m)) e
    | inr m ↦ opened_here cs (open_cell rows c) at x (k, omega (arith, lt), is)
        (put_other c.model None c.test rows at.test at.model (λ f g. eqb-false c.model at.model m g)
        ∙ e)
  ]
  | inr t ↦ opened_here cs (open_cell rows c) at x (k, omega (arith, lt), is) (put_other c.model
      None c.test rows at.test at.model (λ f g. eqb-false c.test at.test t f) ∙ e)
]

-- ---- cells where names change

named_same : (name : List ℕ) (at : ℕ) (rows : List RowContent) (i j : ℕ)
    → cell_at (changed_at at (renamed_row name) rows) i j ≡ cell_at rows i j
named_same name at [] i j = refl
named_same name zero (r ∷ rs) zero j = refl
named_same name zero (r ∷ rs) (suc i) j = refl
named_same name (suc at) (r ∷ rs) zero j = refl
named_same name (suc at) (r ∷ rs) (suc i) j = named_same name at rs i j

row_more : (rows : List RowContent) (r : RowContent) (i j : ℕ) → i < length rows
    → cell_at (rows ++ r ∷ []) i j ≡ cell_at rows i j
row_more [] r i j lt = absurd (omega (arith, lt))
row_more (q ∷ rs) r zero j lt = refl
row_more (q ∷ rs) r (suc i) j lt = row_more rs r i j (omega (arith, lt))

pub longer_same : (b : Bool) (name : List ℕ) (at : ℕ) (columns : List ColumnContent)
    (rows : List RowContent) (i j : ℕ) → i < length rows
    → cell_at
    (if b then changed_at at (renamed_row name) rows else rows ++ open_row name columns ∷ [])
    i j ≡ cell_at rows i j
longer_same true name at columns rows i j lt = named_same name at rows i j
longer_same false name at columns rows i j lt = row_more rows (open_row name columns) i j lt

cell_more : (cs : List (Option Outcome)) (j : ℕ) → j < length cs
    → slice_get (cs ++ None ∷ []) j ≡ slice_get cs j
cell_more [] j lt = absurd (omega (arith, lt))
cell_more (c ∷ cs) zero lt = refl
cell_more (c ∷ cs) (suc j) lt = cell_more cs j (omega (arith, lt))

row_wider : (width : ℕ) (rows : List RowContent) (i j : ℕ) → AreWide width rows → j < width
    → cell_at (map wider_row rows) i j ≡ cell_at rows i j
row_wider width [] i j wide lt = refl
row_wider width (r ∷ rs) zero j wide lt =
    cell_more r.cells j (let is = wide.0 in omega (arith, lt, is))
row_wider width (r ∷ rs) (suc i) j wide lt = row_wider width rs i j wide.1 lt

pub wider_same : (b : Bool) (width : ℕ) (rows : List RowContent) (i j : ℕ) → AreWide width rows
    → j < width → cell_at (if b then rows else map wider_row rows) i j ≡ cell_at rows i j
wider_same true width rows i j wide lt = refl
wider_same false width rows i j wide lt = row_wider width rows i j wide lt

pub cell_missing : (width : ℕ) (rows : List RowContent) (i j : ℕ) → AreWide width rows
    → i < length rows → j < width → cell_at rows i j ≡ None → ⊥
cell_missing width [] i j wide lt less e = absurd (omega (arith, lt))
cell_missing width (r ∷ rs) zero j wide lt less e =
    let le = past r.cells j e in let is = wide.0 in absurd (omega (arith, le, is, less))
cell_missing width (r ∷ rs) (suc i) j wide lt less e =
    cell_missing width rs i j wide.1 (omega (arith, lt)) less e
