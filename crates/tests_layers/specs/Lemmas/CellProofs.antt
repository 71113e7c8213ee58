-- What a sheet owes to a bench of cells.
use Rattle.std.proofs.Common.{◌≡◌, ◌⊎◌, inl, inr, ℕ, zero, suc, ◌+◌, ◌/◌, ◌%◌, ◌^◌, Bool, true, false, not, ◌==◌, List, [], ◌∷◌, Option, Some, None, refl, ap, sym, subst, ◌∙◌, eqb-true, eq-eqb}
use Rattle.std.proofs.lemmas.Bool.{cases_Bool}
use Rattle.memo_core.specs.declared.keys.Node.{Node}
use Rattle.memo_core.specs.declared.keys.Key.TheVariants.{Part, Output}
use Rattle.memo_core.specs.Graph.{Memo, at, stored_output, stamp_or_zero, named_values, IsSettled, IsSettledBy}
use Rattle.memo_core.specs.Right.{ArePresent, IsSolvedNode, IsUntouchedBy}
use Rattle.memo_core.specs.Step.{Has}
use Rattle.memo_core.proofs.Headline.{plain_at}
use Rattle.cells.specs.Cells.{AreSolved, Carries, SolvedIsFromScratch, UsedIsNeeded, UnreachedIsUntouched}
use Rattle.tests_layers.specs.declared.benches.rows.Row.{Row}
use Rattle.tests_layers.specs.declared.benches.sheet.Sheet.{Sheet}
use Rattle.tests_layers.specs.declared.benches.sheet.Change.{Change}
use Rattle.tests_layers.specs.declared.benches.sheet.Change.TheVariants.{Put, Remove, SetBase}
use Rattle.tests_layers.specs.Rows.{row_of, put_row, without_row}
use Rattle.tests_layers.specs.declared.benches.sheet.SheetFault.{SheetFault}
use Rattle.tests_layers.specs.Sheet.{tens, cell_of, cells_of, sheet_net, sheet_makes, first_of, keeps_memo, rows_after, stamp_after, IsChanged, IsSheetRefused}
use Rattle.tests_layers.specs.SheetCells.{cell_at, verdict_at, IsSum, sheet_from_scratch, reaches}

abbrev Found : Type 0
Found = Option (ℕ × ℕ)

some_node : (n m : Node) → Some n ≡ Some m → n ≡ m
some_node n m h = cc

none_node : (n : Node) → None ≡ Some n → ⊥
none_node n h = cc

-- ---- the same change

pub edited_alike : (s u : Sheet) (e f : Change) (number : ℕ) → e ≡ f → IsChanged s e number u
    → IsChanged s f number u
edited_alike s u e f number is h = subst (λ (x : Change). IsChanged s x number u) is h

pub refused_alike : (s : Sheet) (e f : Change) (spent : Bool) (fault : SheetFault) → e ≡ f
    → IsSheetRefused s e spent fault → IsSheetRefused s f spent fault
refused_alike s e f spent fault is h = subst (λ (x : Change). IsSheetRefused s x spent fault) is h

-- ---- the cells and the rows

-- a row that is there has its cell
pub has_cell : (rs : List Row) (t : ℕ) (r : ℕ × ℕ) → row_of t rs ≡ Some r
    → Has (cells_of rs) (cell_of t)
has_cell [] t r h = cc
has_cell (x ∷ rs) t r h =
    elim (cases_Bool (t == x.name)) [
      | inl e ↦ inl (ap cell_of (sym (eqb-true t x.name e)))
      | inr f ↦
          inr (has_cell rs t r (rw f at h))
    ]

pub record RowOf (rs : List Row) (n : Node) : Type 0 where
  pub name : ℕ
  pub row : ℕ × ℕ
  pub found : row_of name rs ≡ Some row
  pub is : cell_of name ≡ n

pub cell_row : (rs : List Row) (n : Node) → Has (cells_of rs) n → RowOf rs n
cell_row [] n h = absurd h
cell_row (x ∷ rs) n h = elim h [
  | inl e ↦ (record {
    name = x.name;
    row = (x.stamp, x.value);
    found = rw (eq-eqb x.name x.name refl) refl;
    is = e;
  })
  | inr k ↦ (let r = cell_row rs n k in later r (cases_Bool (r.name == x.name)))
]
  where
    later : (r : RowOf rs n) → ((r.name == x.name) ≡ true) ⊎ ((r.name == x.name) ≡ false)
        → RowOf (x ∷ rs) n
    later r (inl e) =
        record { name = r.name; row = (x.stamp, x.value); found = rw e refl; is = r.is }
    later r (inr f) = record { name = r.name; row = r.row; found = rw f r.found; is = r.is }

cell_used : (rs : List Row) (t : ℕ) (o : Found) (n : Node) → row_of t rs ≡ o → cell_at t o ≡ Some n
    → Has (tens ∷ cells_of rs) n
cell_used rs t None n is h = absurd (none_node n h)
cell_used rs t (Some r) n is h =
    inr (subst (Has (cells_of rs)) (some_node (cell_of t) n h) (has_cell rs t r is))

pub verdicts_used : (rs : List Row) (test model : List ℕ) (n : Node)
    → verdict_at rs test model ≡ Some n → Has (tens ∷ cells_of rs) n
verdicts_used rs [] [] n h = inl (some_node tens n h)
verdicts_used rs (t ∷ []) [] n h = cell_used rs t (row_of t rs) n refl h
verdicts_used rs (t ∷ u ∷ ts) [] n h = absurd (none_node n h)
verdicts_used rs [] (m ∷ ms) n h = absurd (none_node n h)
verdicts_used rs (t ∷ ts) (m ∷ ms) n h = absurd (none_node n h)

pub all_needed : (s : Sheet) → UsedIsNeeded (sheet_net s) (verdict_at s.rows.items)
all_needed s n h = elim h [
  | inl e ↦ record {
    test = [];
    model = [];
    verdict = n;
    is = ap (λ (m : Node). Some m) e;
    stands = (0, refl);
  }
  | inr k ↦ (let r = cell_row s.rows.items n k in
      record {
        test = r.name ∷ [];
        model = [];
        verdict = n;
        is = rw r.found (ap (λ (m : Node). Some m) r.is);
        stands = (0, refl);
      })
]

-- ---- what settled cells hold

abbrev value_in : Found → ℕ
value_in None = 0
value_in (Some p) = p.1

-- a solved node shows what it makes
shows : (s : Sheet) (ms : List (Memo ℕ)) (n : Node) (v : ℕ) (k : IsSolvedNode sheet_makes (sheet_net s) ms n)
    → named_values (k.memo).outputs ≡ (0, v) ∷ []
    → (stamp : ℕ) × (at ms (Output n 0) ≡ Some (stamp, v))
shows s ms n v k made =
    let p = plain_at 0 (k.memo).outputs v (rw made refl) in
    (p.0, ap (stored_output 0) k.found ∙ p.1)

-- so does what it uses
below : (s : Sheet) (ms : List (Memo ℕ)) (t d : ℕ) → IsSettledBy d (sheet_net s) ms (cell_of t)
    → IsSettled (sheet_net s) ms tens
below s ms t zero h = absurd h
below s ms t (suc d) h = (d, (h.1).0)

first_is : (ms : List (Memo ℕ)) (t b : ℕ) (vs : List ℕ)
    → ArePresent (at ms) (Part 0 t ∷ Output tens 0 ∷ []) vs
    → (stamp : ℕ) × (at ms (Output tens 0) ≡ Some (stamp, b)) → first_of vs ≡ b
first_is ms t b [] p k = absurd p
first_is ms t b (v ∷ []) p k = sym (ap value_in (p.0).1) ∙ ap value_in k.1
first_is ms t b (v ∷ w ∷ vs) p k = absurd p.1

module _ (s : Sheet) (ms : List (Memo ℕ)) (solved : AreSolved sheet_makes (sheet_net s) ms) where
  tens_show : IsSettled (sheet_net s) ms tens
      → (stamp : ℕ) × (at ms (Output tens 0) ≡ Some (stamp, s.base / 10))
  tens_show settled =
      let k = solved.solved tens (inl refl) settled in
      subst (λ (b : ℕ). (stamp : ℕ) × (at ms (Output tens 0) ≡ Some (stamp, b / 10)))
      (eqb-true (k.made).given s.base (k.made).gives)
      (shows s ms tens ((k.made).given / 10) k (k.made).made)

  cell_shows : (t : ℕ) (r : ℕ × ℕ) → row_of t s.rows.items ≡ Some r
      → IsSettled (sheet_net s) ms (cell_of t)
      → (stamp : ℕ) × (at ms (Output (cell_of t) 0) ≡ Some (stamp, (r.1 + s.base / 10) % 2 ^ 64))
  cell_shows t r found settled =
      let k = solved.solved (cell_of t) (inr (has_cell s.rows.items t r found)) settled in
      let given : (k.made).given ≡ r.1 = eqb-true (k.made).given r.1 (rw found at (k.made).gives) in
      let first : first_of k.values ≡ s.base / 10 = first_is ms t (s.base / 10) k.values k.present (tens_show (below s ms t settled.0 settled.1)) in
      subst
      (λ (a : ℕ). (stamp : ℕ)
      × (at ms (Output (cell_of t) 0) ≡ Some (stamp, (a + s.base / 10) % 2 ^ 64))) given
      (subst
      (λ (b : ℕ). (stamp : ℕ)
      × (at ms (Output (cell_of t) 0) ≡ Some (stamp, ((k.made).given + b) % 2 ^ 64))) first
      (shows s ms (cell_of t) (((k.made).given + first_of k.values) % 2 ^ 64) k (k.made).made))

  held : (n m : Node) (v : ℕ) → n ≡ m → (stamp : ℕ) × (at ms (Output n 0) ≡ Some (stamp, v))
      → Carries (λ (v : ℕ). Some v) ms m v
  held n m v e k =
      record {
        stamp = k.0;
        value = v;
        first = subst (λ (x : Node). at ms (Output x 0) ≡ Some (k.0, v)) e k.1;
        holds = refl;
      }

  row_solved : (t : ℕ) (o : Found) (n : Node) → row_of t s.rows.items ≡ o → cell_at t o ≡ Some n
      → IsSettled (sheet_net s) ms n
      → (v : ℕ) × Carries (λ (v : ℕ). Some v) ms n v × IsSum (s.base / 10) o v
  row_solved t None n is h settled = absurd (none_node n h)
  row_solved t (Some r) n is h settled =
      let e = some_node (cell_of t) n h in (
        (r.1 + s.base / 10) % 2 ^ 64,
        held (cell_of t) n ((r.1 + s.base / 10) % 2 ^ 64) e (cell_shows t r is
            (subst (IsSettled (sheet_net s) ms) (sym e) settled)),
        refl,
      )

  cell_solved : (test model : List ℕ) (n : Node) → verdict_at s.rows.items test model ≡ Some n
      → IsSettled (sheet_net s) ms n
      → (v : ℕ) × Carries (λ (v : ℕ). Some v) ms n v × sheet_from_scratch s test model v
  cell_solved [] [] n h settled =
      let e = some_node tens n h in (
        s.base / 10,
        held tens n (s.base / 10) e (tens_show
            (subst (IsSettled (sheet_net s) ms) (sym e) settled)),
        refl,
      )
  cell_solved (t ∷ []) [] n h settled = row_solved t (row_of t s.rows.items) n refl h settled
  cell_solved (t ∷ u ∷ ts) [] n h settled = absurd (none_node n h)
  cell_solved [] (m ∷ models) n h settled = absurd (none_node n h)
  cell_solved (t ∷ ts) (m ∷ models) n h settled = absurd (none_node n h)

pub cells_solved : (s : Sheet) (test model : List ℕ)
    → SolvedIsFromScratch sheet_makes (sheet_net s) (λ (v : ℕ). Some v) (verdict_at s.rows.items test model)
    (sheet_from_scratch s test model)
cells_solved s test model ms n solved is settled = cell_solved s ms solved test model n is settled

-- ---- what an edit leaves

true_not : (b : Bool) → (not b ≡ true → ⊥) → b ≡ true
true_not true h = refl
true_not false h = absurd (h refl)

not_true : (b : Bool) → (b ≡ true → ⊥) → b ≡ false
not_true true h = absurd (h refl)
not_true false h = refl

-- another row is as it was
pub put_other : (t x v number : ℕ) (rs : List Row) → (t == x) ≡ false
    → row_of t (put_row x v number rs) ≡ row_of t rs
put_other t x v number [] f = rw f refl
put_other t x v number (r ∷ rs) f = elim (cases_Bool (x == r.name)) [
  | inl e ↦ rw e (rw f (rw (rw (eqb-true x r.name e) at f) refl))
  | inr n ↦ rw n (elim (cases_Bool (t == r.name)) [
    | inl e ↦ rw e refl
    | inr g ↦ rw g
        (put_other t x v number rs f)
  ])
]

pub drop_other : (t x : ℕ) (rs : List Row) → (t == x) ≡ false
    → row_of t (without_row x rs) ≡ row_of t rs
drop_other t x [] f = refl
drop_other t x (r ∷ rs) f = elim (cases_Bool (x == r.name)) [
  | inl e ↦ rw e (rw (rw (eqb-true x r.name e) at f) (drop_other t x rs f))
  | inr n ↦ rw n (elim (cases_Bool (t == r.name))
      [ inl e ↦ rw e refl | inr g ↦ rw g (drop_other t x rs f) ])
]

same_rows : (s : Sheet) (e : Change) (t number : ℕ) → (reaches s e (t ∷ []) ≡ true → ⊥)
    → row_of t (rows_after e number s.rows.items) ≡ row_of t s.rows.items
same_rows s (Put x v) t number h = put_other t x v number s.rows.items (not_true (t == x) h)
same_rows s (Remove x) t number h = drop_other t x s.rows.items (not_true (t == x) h)
same_rows s (SetBase v) t number h = refl

same_base : (s : Sheet) (e : Change) (test : List ℕ) (number : ℕ) → (reaches s e test ≡ true → ⊥)
    → stamp_after e number s.base s.base_stamp ≡ s.base_stamp
same_base s (Put x v) test number h = refl
same_base s (Remove x) test number h = refl
same_base s (SetBase v) test number h = rw (true_not (v == s.base) h) refl

module _ (s u : Sheet) (base : u.base_stamp ≡ s.base_stamp) where
  abbrev keep : Node → Bool
  keep n = keeps_memo n.kind n.test u.rows.items

  tens_untouched : (d : ℕ) → IsUntouchedBy d keep (sheet_net s) (sheet_net u) tens
  tens_untouched zero = tt
  tens_untouched (suc d) = (refl, refl, (base, tt), tt)

  cell_untouched : (t : ℕ) (r : ℕ × ℕ) → row_of t s.rows.items ≡ Some r
      → row_of t u.rows.items ≡ row_of t s.rows.items → (d : ℕ)
      → IsUntouchedBy d keep (sheet_net s) (sheet_net u) (cell_of t)
  cell_untouched t r found same zero = tt
  cell_untouched t r found same (suc d) =
      (refl, rw (same, found) refl, (ap stamp_or_zero same, (tt, tt)), (tens_untouched d, tt))

  row_left : (t : ℕ) (o : Found) (n : Node) → row_of t s.rows.items ≡ o
      → row_of t u.rows.items ≡ row_of t s.rows.items → cell_at t o ≡ Some n
      → (cell_at t (row_of t u.rows.items) ≡ Some n)
      × ((d : ℕ) → IsUntouchedBy d keep (sheet_net s) (sheet_net u) n)
  row_left t None n is same h = absurd (none_node n h)
  row_left t (Some r) n is same h = (
    rw (same, is) h,
    (λ d. subst (IsUntouchedBy d keep (sheet_net s) (sheet_net u)) (some_node (cell_of t) n h)
        (cell_untouched t r is same d)),
  )

pub cells_left : (s u : Sheet) (e : Change) (number : ℕ) (test model : List ℕ)
    → IsChanged s e number u → (reaches s e test ≡ true → ⊥)
    → UnreachedIsUntouched (λ n. keeps_memo n.kind n.test u.rows.items) (sheet_net s) (sheet_net u)
    (verdict_at s.rows.items test model) (verdict_at u.rows.items test model)
cells_left s u e number [] [] c away n h = (
  h,
  (λ d. subst
      (IsUntouchedBy d (λ n. keeps_memo n.kind n.test u.rows.items) (sheet_net s)
      (sheet_net u))
      (some_node tens n h)
      (tens_untouched s u (c.stamp ∙ same_base s e [] number away) d)),
)
cells_left s u e number (t ∷ []) [] c away n h =
    row_left s u (c.stamp ∙ same_base s e (t ∷ []) number away) t (row_of t s.rows.items) n refl
    (ap (row_of t) c.rows ∙ same_rows s e t number away) h
cells_left s u e number (t ∷ v ∷ ts) [] c away n h = absurd (none_node n h)
cells_left s u e number [] (m ∷ ms) c away n h = absurd (none_node n h)
cells_left s u e number (t ∷ ts) (m ∷ ms) c away n h = absurd (none_node n h)
