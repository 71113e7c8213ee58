-- What a change touches of a sheet, and which memos may stay.
use Rattle.std.proofs.Common.{◌≡◌, ◌⊎◌, inl, inr, ℕ, Bool, true, false, not, ◌==◌, List, [], ◌∷◌, Option, Some, is_some, refl, ap, sym, subst, ◌∙◌, eqb-true}
use Rattle.std.proofs.lemmas.Bool.{cases_Bool}
use Rattle.memo_core.specs.declared.keys.Kind.{Kind}
use Rattle.memo_core.specs.declared.keys.Kind.TheVariants.{Space, Group, Check, Verdict}
use Rattle.memo_core.specs.declared.keys.Node.{Node}
use Rattle.memo_core.specs.Graph.{stamp_or_zero}
use Rattle.memo_core.specs.Laws.{IsUsedAlike, TouchesOnly}
use Rattle.memo_core.specs.Step.{Has}
use Rattle.tests_layers.specs.declared.benches.rows.Row.{Row}
use Rattle.tests_layers.specs.declared.benches.sheet.Sheet.{Sheet}
use Rattle.tests_layers.specs.declared.benches.sheet.Change.{Change}
use Rattle.tests_layers.specs.declared.benches.sheet.Change.TheVariants.{Put, Remove, SetBase}
use Rattle.tests_layers.specs.declared.benches.sheet.Prepared.{Prepared}
use Rattle.tests_layers.specs.Rows.{row_of, put_row}
use Rattle.tests_layers.specs.Sheet.{tens, cell_of, cells_of, sheet_net, keeps_memo, is_removal, rows_after, stamp_after, touched_after, nodes_touched, IsSheetValid, IsChanged, IsSheetPrepared}
use Rattle.tests_layers.specs.Lemmas.CellProofs.{put_other, drop_other, has_cell, cell_row}
use Rattle.tests_layers.specs.Lemmas.Laws.{prepared_changes}

-- ---- cells

pub cells_kept : (rs : List Row) (n : Node) → Has (tens ∷ cells_of rs) n
    → keeps_memo n.kind n.test rs ≡ true
cells_kept rs n h = elim h [
  | inl e ↦ subst (λ (m : Node). keeps_memo m.kind m.test rs ≡ true) e refl
  | inr l ↦ (let c = cell_row rs n l in
      subst (λ (m : Node). keeps_memo m.kind m.test rs ≡ true) c.is (rw c.found refl))
]

-- ---- what is touched

abbrev is_other_base : Change → ℕ → Bool
is_other_base (Put x v) base = false
is_other_base (Remove x) base = false
is_other_base (SetBase v) base = not (v == base)

abbrev is_row_changed : Change → ℕ → Bool
is_row_changed (Put x v) t = t == x
is_row_changed (Remove x) t = t == x
is_row_changed (SetBase v) t = false

tens_touched : (e : Change) (base : ℕ) → is_other_base e base ≡ true
    → touched_after e base ≡ Some tens
tens_touched (Put x v) base h = cc
tens_touched (Remove x) base h = cc
tens_touched (SetBase v) base h = elim (cases_Bool (v == base)) [
  | inl t ↦ (let f : false ≡ true = rw t at h in cc)
  | inr f ↦ rw f refl
]

base_kept : (e : Change) (number base stamp : ℕ) → is_other_base e base ≡ false
    → stamp_after e number base stamp ≡ stamp
base_kept (Put x v) number base stamp h = refl
base_kept (Remove x) number base stamp h = refl
base_kept (SetBase v) number base stamp h = elim (cases_Bool (v == base)) [
  | inl t ↦ rw t refl
  | inr f ↦ (let g : true ≡ false = rw f at h in cc)
]

cell_touched : (e : Change) (base t : ℕ) → is_row_changed e t ≡ true
    → touched_after e base ≡ Some (cell_of t)
cell_touched (Put x v) base t h = named x t h
  where
    named : (x t : ℕ) → (t == x) ≡ true → Some (cell_of x) ≡ Some (cell_of t)
    named x t h = ap (λ (y : ℕ). let o : Option Node = Some (cell_of y) in o) (sym (eqb-true t x h))
cell_touched (Remove x) base t h =
    ap (λ (y : ℕ). let o : Option Node = Some (cell_of y) in o) (sym (eqb-true t x h))
cell_touched (SetBase v) base t h = cc

row_kept : (e : Change) (number t : ℕ) (rs : List Row) → is_row_changed e t ≡ false
    → row_of t (rows_after e number rs) ≡ row_of t rs
row_kept (Put x v) number t rs h = put_other t x v number rs h
row_kept (Remove x) number t rs h = drop_other t x rs h
row_kept (SetBase v) number t rs h = refl

module _ (s w : Sheet) (e : Change) (number : ℕ) (c : IsChanged s e number w) where
  abbrev IsAlike : Node → Type 0
  IsAlike n = Has (nodes_touched w.touched) n ⊎ IsUsedAlike (sheet_net s) (sheet_net w) n

  has_touched : (n : Node) → touched_after e s.base ≡ Some n → Has (nodes_touched w.touched) n
  has_touched n h = rw (c.touched ∙ h) (inl refl)

  tens_alike : IsAlike tens
  tens_alike = elim (cases_Bool (is_other_base e s.base)) [
    | inl t ↦ inl (has_touched tens (tens_touched e s.base t))
    | inr f ↦ inr (record {
      before = inl refl;
      after = inl refl;
      inputs = refl;
      parts = (c.stamp ∙ base_kept e number s.base s.base_stamp f, tt);
    })
  ]

  row_alike : (t : ℕ) → is_row_changed e t ≡ false → row_of t w.rows.items ≡ row_of t s.rows.items
  row_alike t f = ap (row_of t) c.rows ∙ row_kept e number t s.rows.items f

  cell_alike : (t : ℕ) (p : ℕ × ℕ)
      → (row_of t s.rows.items ≡ Some p) ⊎ (row_of t w.rows.items ≡ Some p) → IsAlike (cell_of t)
  cell_alike t p there = elim (cases_Bool (is_row_changed e t)) [
    | inl is ↦ inl (has_touched (cell_of t) (cell_touched e s.base t is))
    | inr f ↦ (let same = row_alike t f in
        let found : row_of t s.rows.items ≡ Some p = elim there [
          | inl h ↦ h
          | inr h ↦ sym same ∙ h
        ] in
        inr (record {
          before = inr (has_cell s.rows.items t p found);
          after = inr (has_cell w.rows.items t p (same ∙ found));
          inputs = refl;
          parts = (ap stamp_or_zero same, (tt, tt));
        }))
  ]

  touches_only : TouchesOnly (sheet_net s) (sheet_net w) (nodes_touched w.touched)
  touches_only n used = elim used [
    | inl h ↦ elim h [
      | inl e ↦ subst IsAlike e tens_alike
      | inr l ↦ (let r = cell_row s.rows.items n l in
          subst IsAlike r.is (cell_alike r.name r.row (inl r.found)))
    ]
    | inr h ↦ elim h [
      | inl e ↦ subst IsAlike e tens_alike
      | inr l ↦ (let r = cell_row w.rows.items n l in
          subst IsAlike r.is (cell_alike r.name r.row (inr r.found)))
    ]
  ]

pub changes_touch : (t u w : Sheet) (e : Change) (p : Prepared) (number : ℕ) → IsSheetValid t
    → IsSheetPrepared t e p u → IsChanged u p.change number w
    → TouchesOnly (sheet_net t) (sheet_net w) (nodes_touched w.touched)
changes_touch t u w e p number valid h c =
    touches_only t w e number (prepared_changes t u w e p number h c)

-- ---- memos that may stay

put_keeps : (t x v number : ℕ) (rs : List Row) → is_some (row_of t rs) ≡ true
    → is_some (row_of t (put_row x v number rs)) ≡ true
put_keeps t x v number [] h = cc
put_keeps t x v number (r ∷ rs) h = elim (cases_Bool (x == r.name)) [
  | inl e ↦ rw e (elim (cases_Bool (t == x)) [
    | inl s ↦ rw s refl
    | inr f ↦ rw f (
        let g : (t == r.name) ≡ false = subst (λ (y : ℕ). (t == y) ≡ false) (eqb-true x r.name e) f in
        rw g at h)
  ])
  | inr n ↦ rw n (elim (cases_Bool (t == r.name)) [
    | inl s ↦ rw s refl
    | inr f ↦ rw f (put_keeps t x v number rs (rw f at h))
  ])
]

rows_keep : (e : Change) (number t : ℕ) (rs : List Row) → is_removal e ≡ false
    → is_some (row_of t rs) ≡ true → is_some (row_of t (rows_after e number rs)) ≡ true
rows_keep (Put x v) number t rs none h = put_keeps t x v number rs h
rows_keep (Remove x) number t rs none h = cc
rows_keep (SetBase v) number t rs none h = h

kept_by : (k : Kind) (t : ℕ) (rs ss : List Row)
    → (is_some (row_of t rs) ≡ true → is_some (row_of t ss) ≡ true) → keeps_memo k t rs ≡ true
    → keeps_memo k t ss ≡ true
kept_by Space t rs ss f h = refl
kept_by Group t rs ss f h = h
kept_by Check t rs ss f h = h
kept_by Verdict t rs ss f h = f h

pub changes_keep : (t u w : Sheet) (e : Change) (p : Prepared) (number : ℕ) → IsSheetValid t
    → IsSheetPrepared t e p u → IsChanged u p.change number w → is_removal p.change ≡ false
    → (n : Node) → keeps_memo n.kind n.test t.rows.items ≡ true
    → keeps_memo n.kind n.test w.rows.items ≡ true
changes_keep t u w e p number valid h changed none n is =
    let c = prepared_changes t u w e p number h changed in
    kept_by n.kind n.test t.rows.items w.rows.items
    (λ there. ap (λ (rs : List Row). is_some (row_of n.test rs)) c.rows
    ∙ rows_keep e number n.test t.rows.items (rw h.change_is at none) there) is
