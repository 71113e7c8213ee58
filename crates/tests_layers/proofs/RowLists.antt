use Rattle.std.proofs.Common.{◌≡◌, ◌⊎◌, inl, inr, ◌-◌, ℕ, zero, suc, ◌+◌, ◌<◌, ◌≤◌, Bool, true, false, ◌==◌, List, [], ◌∷◌, ◌++◌, take, drop, length, Some, slice_get, slice_set, slice_index_or, if◌then◌else◌, refl, ap, sym, add-one, eqb-true, eq-eqb, ne_eqb, arith}
use Rattle.std.proofs.lemmas.Bool.{cases_Bool}
use Rattle.tests_layers.specs.declared.benches.rows.Row.{Row}
use Rattle.memo_core.specs.Step.{Has}
use Rattle.tests_layers.specs.Rows.{row_of, put_row, without_row}
use Rattle.tests_layers.specs.Sheet.{tens, cell_of, cells_of}

pub length-cells_of : (rs : List Row) → length (cells_of rs) ≡ length rs
length-cells_of [] = refl
length-cells_of (r ∷ rs) = ap suc (length-cells_of rs)

pub cell_at : (rs : List Row) (i : ℕ) (d : Row) → i < length rs
    → slice_get (cells_of rs) i ≡ Some (cell_of (slice_index_or rs i d).name)
cell_at [] i d h = absurd (omega arith)
cell_at (r ∷ rs) zero d h = refl
cell_at (r ∷ rs) (suc i) d h = cell_at rs i d (omega arith)

pub cells_from : (rs : List Row) (i : ℕ) (d : Row) → i < length rs
    → drop i (cells_of rs) ≡ cell_of (slice_index_or rs i d).name ∷ drop (i + 1) (cells_of rs)
cells_from [] i d h = absurd (omega arith)
cells_from (r ∷ rs) zero d h = refl
cells_from (r ∷ rs) (suc i) d h = rw add-one (rw add-one at (cells_from rs i d (omega arith)))

pub row_set : (t v number : ℕ) (rs : List Row) (i : ℕ) (row : Row) (stamp : ℕ) → i < length rs
    → row ≡ slice_index_or rs i row → t ≡ row.name
    → stamp ≡ (if v == row.value then row.stamp else number)
    → slice_set rs i (record { name = t; stamp = stamp; value = v })
    ≡ take i rs ++ put_row t v number (drop i rs)
row_set t v number [] i row stamp l is h s = absurd (omega arith)
row_set t v number (r ∷ rs) zero row stamp l is h s =
    let e : row ≡ r = is in
    rw (eq-eqb t r.name (rw e at h)) (ap
    (λ (k : ℕ). let x : Row = record { name = t; stamp = k; value = v } in x ∷ rs)
    (rw e at s))
row_set t v number (r ∷ rs) (suc i) row stamp l is h s =
    ap (λ (rs : List Row). r ∷ rs) (row_set t v number rs i row stamp (omega arith) is h s)

pub kept_stamp : (v : ℕ) (row : Row) (number : ℕ) → v ≡ row.value
    → row.stamp ≡ (if v == row.value then row.stamp else number)
kept_stamp v row number h = rw (eq-eqb v row.value h) refl

pub new_stamp : (v : ℕ) (row : Row) (number : ℕ) → (v ≡ row.value → ⊥)
    → number ≡ (if v == row.value then row.stamp else number)
new_stamp v row number h = rw (ne_eqb v row.value h) refl

-- the used nodes, from the second on
pub cell_used_at : (rs : List Row) (i : ℕ) (d : Row) → 0 < i → i < length rs + 1
    → slice_get (tens ∷ cells_of rs) i ≡ Some (cell_of (slice_index_or rs (i - 1) d).name)
cell_used_at rs zero d h b = absurd (omega (arith, h))
cell_used_at rs (suc i) d h b =
    let e : suc i - 1 ≡ i = omega arith in
    rw e (cell_at rs i d (omega (arith, b)))

pub cells_used_from : (rs : List Row) (i : ℕ) (d : Row) → 0 < i → i < length rs + 1
    → drop i (tens ∷ cells_of rs)
    ≡ cell_of (slice_index_or rs (i - 1) d).name ∷ drop (i + 1) (tens ∷ cells_of rs)
cells_used_from rs zero d h b = absurd (omega (arith, h))
cells_used_from rs (suc i) d h b =
    let e : suc i - 1 ≡ i = omega arith in
    rw (e, add-one) (rw add-one at (cells_from rs i d (omega (arith, b))))

-- the cell of a row that is there
pub has_cell : (t : ℕ) (rs : List Row) (p : ℕ × ℕ) → row_of t rs ≡ Some p
    → Has (cells_of rs) (cell_of t)
has_cell t [] p h = cc
has_cell t (r ∷ rs) p h = elim (either (t == r.name)) [
  | inl e ↦ inl (ap (λ (x : ℕ). cell_of x) (sym (eqb-true t r.name e)))
  | inr f ↦ inr (has_cell t rs p (rw f at h))
]
  where
    either : (b : Bool) → (b ≡ true) ⊎ (b ≡ false)
    either true = inl refl
    either false = inr refl

pub length-put : (t v number : ℕ) (rs : List Row) → length (put_row t v number rs) ≤ length rs + 1
length-put t v number [] = omega arith
length-put t v number (r ∷ rs) = elim (cases_Bool (t == r.name)) [
  | inl e ↦ rw e (omega arith)
  | inr f ↦ rw f (let l = length-put t v number rs in omega arith)
]

pub length-removed : (t : ℕ) (rs : List Row) → length (without_row t rs) ≤ length rs
length-removed t [] = omega arith
length-removed t (r ∷ rs) = elim (cases_Bool (t == r.name)) [
  | inl e ↦ rw e (let l = length-removed t rs in omega arith)
  | inr f ↦ rw f (let l = length-removed t rs in omega arith)
]
