-- What a sheet owes to the memo core.
use Rattle.std.proofs.Common.{◌≡◌, ◌↔◌, ◌⊎◌, inl, inr, ℕ, zero, suc, ◌<◌, Bool, true, false, ◌==◌, List, [], ◌∷◌, Option, Some, None, if◌then◌else◌, refl, ap, sym, subst, ◌∙◌, eqb-true, eq-eqb, arith}
use Rattle.std.specs.List.{AllByRecursion as Each}
use Rattle.memo_core.specs.declared.keys.Kind.{Kind}
use Rattle.memo_core.specs.declared.keys.Kind.TheVariants.{Space, Group, Check, Verdict}
use Rattle.memo_core.specs.declared.keys.Node.{Node}
use Rattle.memo_core.specs.Names.{same_node}
use Rattle.memo_core.specs.Lemmas.Equality.{same_node_exact}
use Rattle.memo_core.specs.Graph.{input_nodes, stamp_or_zero, lookup}
use Rattle.memo_core.specs.Right.{HasOutputValue, IsSoundNet, PartsGoOn, IsSamePart}
use Rattle.memo_core.specs.Laws.{AreUsers, AreReaders}
use Rattle.memo_core.specs.Step.{Has}
use Rattle.tests_layers.specs.declared.benches.rows.Row.{Row}
use Rattle.tests_layers.specs.declared.benches.sheet.Sheet.{Sheet}
use Rattle.tests_layers.specs.declared.benches.sheet.Change.{Change}
use Rattle.tests_layers.specs.declared.benches.sheet.Change.TheVariants.{Put, Remove, SetBase}
use Rattle.tests_layers.specs.declared.benches.sheet.Prepared.{Prepared}
use Rattle.tests_layers.specs.Rows.{row_of, put_row, without_row}
use Rattle.tests_layers.specs.Sheet.{tens, cells_of, sheet_inputs, sheet_net, holds_number, gives_in, sheet_makes, is_there, users_of, rank_of, rows_after, base_after, stamp_after, IsSheetValid, IsSheetSince, IsChanged, IsSheetPrepared}

pub numbers_exact : (a b : ℕ) → ((a == b) ≡ true) ↔ (a ≡ b)
numbers_exact a b = (eqb-true a b, eq-eqb a b)

pub prepared_changes : (s u w : Sheet) (e : Change) (p : Prepared) (number : ℕ) → IsSheetPrepared s e p u
    → IsChanged u p.change number w → IsChanged s e number w
prepared_changes s u w e p number h c = record {
  later = rw h.last at c.later;
  last = c.last;
  rows = rw (h.change_is, h.rows) at c.rows;
  base = rw (h.change_is, h.base) at c.base;
  stamp = rw (h.change_is, h.base, h.stamp) at c.stamp;
  touched = rw (h.change_is, h.base) at c.touched;
}

made_value : (r : ℕ) (os : List (ℕ × ℕ)) → os ≡ (0, r) ∷ [] → (v : ℕ) × (lookup 0 os ≡ Some v)
made_value r os e = (r, rw e refl)

module _ (s : Sheet) where
  has_values : (k : Kind) (t : ℕ) → is_there k t s.rows.items
      → Each (HasOutputValue sheet_makes (sheet_net s)) (sheet_inputs k t)
  has_values Space t h = (tt, tt)
  has_values Group t h = tt
  has_values Check t h = tt
  has_values Verdict t h = (tt, ((λ g vs os gives e. made_value _ os e), tt))

  inputs_there : (k : Kind) (t : ℕ) → is_there k t s.rows.items
      → Each (λ n. is_there n.kind n.test s.rows.items) (input_nodes (sheet_inputs k t))
  inputs_there Space t h = tt
  inputs_there Group t h = tt
  inputs_there Check t h = tt
  inputs_there Verdict t h = (tt, tt)

  pub sheet_sound : IsSoundNet sheet_makes (sheet_net s) (λ n. is_there n.kind n.test s.rows.items)
  sheet_sound = record {
    has_values = λ n h. has_values n.kind n.test h;
    inputs_there = λ n h. inputs_there n.kind n.test h;
  }

either : (b : Bool) → (b ≡ true) ⊎ (b ≡ false)
either true = inl refl
either false = inr refl

each_to : (A C : Node → Type 0) → ((n : Node) → A n → C n) → (ns : List Node) → Each A ns
    → Each C ns
each_to A C f [] e = tt
each_to A C f (n ∷ ns) e = (f n e.0, each_to A C f ns e.1)

there_more : (r : Row) (rs : List Row) (k : Kind) (t : ℕ) → is_there k t rs → is_there k t (r ∷ rs)
there_more r rs Space t h = tt
there_more r rs Group t h = h
there_more r rs Check t h = h
there_more r rs Verdict t h = elim (either (t == r.name)) [ inl e ↦ rw e tt | inr f ↦ rw f h ]

cells_there : (rs : List Row) → Each (λ n. is_there n.kind n.test rs) (cells_of rs)
cells_there [] = tt
cells_there (r ∷ rs) = (
  rw (eq-eqb r.name r.name refl) tt,
  each_to (λ n. is_there n.kind n.test rs) (λ n. is_there n.kind n.test (r ∷ rs))
      (λ n h. there_more r rs n.kind n.test h) (cells_of rs) (cells_there rs),
)

pub all_there : (rs : List Row) → Each (λ n. is_there n.kind n.test rs) (tens ∷ cells_of rs)
all_there rs = (tt, cells_there rs)

inputs_used_by : (rs : List Row) (k : Kind) (t : ℕ)
    → Each (Has (tens ∷ cells_of rs)) (input_nodes (sheet_inputs k t))
inputs_used_by rs Space t = tt
inputs_used_by rs Group t = tt
inputs_used_by rs Check t = tt
inputs_used_by rs Verdict t = (inl refl, tt)

pub inputs_used : (rs : List Row) (n : Node) → Has (tens ∷ cells_of rs) n
    → Each (Has (tens ∷ cells_of rs)) (input_nodes (sheet_inputs n.kind n.test))
inputs_used rs n h = inputs_used_by rs n.kind n.test

-- a node on which another stands is that of the tens
from_tens : (k : Kind) (t : ℕ) (n : Node) → Has (input_nodes (sheet_inputs k t)) n → tens ≡ n
from_tens Space t n h = absurd h
from_tens Group t n h = absurd h
from_tens Check t n h = absurd h
from_tens Verdict t n h = elim h [ inl e ↦ e | inr e ↦ absurd e ]

among_cells : (rs : List Row) (u : Node) (n : Node) → Has (tens ∷ cells_of rs) u
    → Has (input_nodes (sheet_inputs u.kind u.test)) n → Has (cells_of rs) u
among_cells rs u n h i = elim h [
  | inl e ↦ absurd (subst (λ (m : Node). Has (input_nodes (sheet_inputs m.kind m.test)) n) (sym e) i)
  | inr c ↦ c
]

users_known : (rs : List Row) (n u : Node) → Has (tens ∷ cells_of rs) u
    → Has (input_nodes (sheet_inputs u.kind u.test)) n → Has (users_of n rs) u
users_known rs n u h i =
    subst (λ (m : Node). Has (users_of m rs) u) (from_tens u.kind u.test n i)
    (among_cells rs u n h i)

-- a cell stands on the node of the tens
cells_stand : (rs : List Row) (u : Node) → Has (cells_of rs) u
    → Has (input_nodes (sheet_inputs u.kind u.test)) tens
cells_stand [] u h = absurd h
cells_stand (r ∷ rs) u h = elim h [
  | inl e ↦ subst (λ (m : Node). Has (input_nodes (sheet_inputs m.kind m.test)) tens) e (inl refl)
  | inr l ↦ cells_stand rs u l
]

-- only the node of the tens has users, and these are the cells
users_there : (rs : List Row) (n u : Node) → Has (users_of n rs) u → (tens ≡ n) × Has (cells_of rs) u
users_there rs n u h = elim (either (same_node n tens)) [
  | inl t ↦ (sym (same_node_exact n tens t), rw t at h)
  | inr f ↦ (let none : Has [] u = rw f at h in absurd none)
]

pub users_listed : (s : Sheet) → AreUsers (sheet_net s) (λ n. users_of n s.rows.items)
users_listed s = record {
  listed = λ n u h i. users_known s.rows.items n u h i;
  are_used = λ n u h l. inr (users_there s.rows.items n u l).1;
}

pub users_read : (s : Sheet) → AreReaders (sheet_net s) (λ n. users_of n s.rows.items)
users_read s n u h l =
    let p = users_there s.rows.items n u l in
    subst (Has (input_nodes (sheet_inputs u.kind u.test))) p.0 (cells_stand s.rows.items u p.1)

falls_by : (k : Kind) (t : ℕ) → Each (λ m. rank_of m.kind < rank_of k) (input_nodes (sheet_inputs k t))
falls_by Space t = tt
falls_by Group t = tt
falls_by Check t = tt
falls_by Verdict t = (omega arith, tt)

pub ranks_fall : (s : Sheet) (n : Node)
    → Each (λ m. rank_of m.kind < rank_of n.kind) (input_nodes (sheet_inputs n.kind n.test))
ranks_fall s n = falls_by n.kind n.test

abbrev some_pair : ℕ → ℕ → Option (ℕ × ℕ)
some_pair s v = Some (s, v)

abbrev value_in : Option (ℕ × ℕ) → ℕ
value_in None = 0
value_in (Some p) = p.1

some_stamp : (a b s v : ℕ) → some_pair a b ≡ some_pair s v → a ≡ s
some_stamp a b s v h = ap stamp_or_zero h

none_some : (s v : ℕ) → None ≡ some_pair s v → ⊥
none_some s v e = cc

-- a put leaves each other row, and the row that it sets keeps its stamp with its value
put_goes_on : (t v number : ℕ) (rs : List Row) (x s w : ℕ)
    → row_of x (put_row t v number rs) ≡ Some (s, w) → (row_of x rs ≡ Some (s, w)) ⊎ (s ≡ number)
put_goes_on t v number [] x s w h = elim (either (x == t)) [
  | inl e ↦ inr (sym (some_stamp number v s w (rw e at h)))
  | inr f ↦ absurd (none_some s w (rw f at h))
]
put_goes_on t v number (r ∷ rs) x s w h = elim (either (t == r.name)) [
  | inl e ↦ (let k : row_of x (record {
    name = t;
    stamp = (if v == r.value then r.stamp else number);
    value = v;
  } ∷ rs)
      ≡ Some (s, w) = rw e at h in
      elim (either (x == t)) [
        | inl same ↦ elim (either (v == r.value)) [
          | inl kept ↦ inl (let there : (x == r.name) ≡ true =
              eq-eqb x r.name (eqb-true x t same ∙ eqb-true t r.name e) in
              let held : some_pair r.stamp v ≡ some_pair s w = rw (same, kept) at k in
              rw there (ap (λ (v : ℕ). let o : Option (ℕ × ℕ) = Some (r.stamp, v) in o)
              (sym (eqb-true v r.value kept)) ∙ held))
          | inr new ↦ inr (sym (some_stamp number v s w (rw (same, new) at k)))
        ]
        | inr other ↦ inl (let away : (x == r.name) ≡ false = rw (eqb-true t r.name e) at other in
            rw away (rw other at k))
      ])
  | inr f ↦ (let k : row_of x (r ∷ put_row t v number rs) ≡ Some (s, w) = rw f at h in
      elim (either (x == r.name)) [
        | inl same ↦ inl (rw same (rw same at k))
        | inr other ↦ elim (put_goes_on t v number rs x s w (rw other at k))
            [ inl was ↦ inl (rw other was) | inr is ↦ inr is ]
      ])
]

-- a row that stays was there
gone_goes_on : (t : ℕ) (rs : List Row) (x s w : ℕ) → row_of x (without_row t rs) ≡ Some (s, w)
    → (x == t) ≡ false → row_of x rs ≡ Some (s, w)
gone_goes_on t [] x s w h f = h
gone_goes_on t (r ∷ rs) x s w h f = elim (either (t == r.name)) [
  | inl e ↦ (let k : row_of x (without_row t rs) ≡ Some (s, w) = rw e at h in
      let away : (x == r.name) ≡ false = rw (eqb-true t r.name e) at f in
      rw away (gone_goes_on t rs x s w k f))
  | inr g ↦ (let k : row_of x (r ∷ without_row t rs) ≡ Some (s, w) = rw g at h in
      elim (either (x == r.name)) [
        | inl same ↦ rw same (rw same at k)
        | inr other ↦ rw other (gone_goes_on t rs x s w (rw other at k) f)
      ])
]

none_gone : (t : ℕ) (rs : List Row) → row_of t (without_row t rs) ≡ None
none_gone t [] = refl
none_gone t (r ∷ rs) = elim (either (t == r.name)) [
  | inl e ↦ rw e (none_gone t rs)
  | inr f ↦ rw f (rw f (none_gone t rs))
]

remove_goes_on : (t : ℕ) (rs : List Row) (x s w : ℕ) → row_of x (without_row t rs) ≡ Some (s, w)
    → row_of x rs ≡ Some (s, w)
remove_goes_on t rs x s w h = elim (either (x == t)) [
  | inl e ↦ absurd (none_some s w (sym (none_gone t rs) ∙ ap
      (λ (y : ℕ). row_of y (without_row t rs)) (sym (eqb-true x t e)) ∙ h))
  | inr f ↦ gone_goes_on t rs x s w h f
]

rows_go_on : (e : Change) (number : ℕ) (rs : List Row) (x s w : ℕ)
    → row_of x (rows_after e number rs) ≡ Some (s, w) → (row_of x rs ≡ Some (s, w)) ⊎ (s ≡ number)
rows_go_on (Put t v) number rs x s w h = put_goes_on t v number rs x s w h
rows_go_on (Remove t) number rs x s w h = inl (remove_goes_on t rs x s w h)
rows_go_on (SetBase v) number rs x s w h = inl h

base_goes_on : (e : Change) (number stamp base : ℕ)
    → ((stamp_after e number base stamp ≡ stamp) × (base_after e base ≡ base))
    ⊎ (stamp_after e number base stamp ≡ number)
base_goes_on (Put t v) number stamp base = inl (refl, refl)
base_goes_on (Remove t) number stamp base = inl (refl, refl)
base_goes_on (SetBase v) number stamp base = elim (either (v == base)) [
  | inl same ↦ inl (rw same refl, eqb-true v base same)
  | inr other ↦ inr (rw other refl)
]

row_goes_on : (old new : Option (ℕ × ℕ)) (number : ℕ)
    → ((s w : ℕ) → new ≡ Some (s, w) → (old ≡ Some (s, w)) ⊎ (s ≡ number))
    → (stamp_or_zero new ≡ stamp_or_zero old) ⊎ (stamp_or_zero new ≡ number) ⊎ (stamp_or_zero new ≡ 0)
row_goes_on old None number f = inr (inr refl)
row_goes_on old (Some r) number f =
    elim (f r.0 r.1 refl) [ inl was ↦ inl (sym (ap stamp_or_zero was)) | inr is ↦ inr (inl is) ]

pub changes_go_on : (p q : Sheet) (e : Change) (number : ℕ) → IsChanged p e number q
    → PartsGoOn (sheet_net p) number (sheet_net q)
changes_go_on p q e number h zero x =
    row_goes_on (row_of x p.rows.items) (row_of x q.rows.items) number
    (λ s w g. rows_go_on e number p.rows.items x s w (ap (row_of x) (sym h.rows) ∙ g))
changes_go_on p q e number h (suc part) x =
    elim (base_goes_on e number p.base_stamp p.base) [
      | inl was ↦ inl (h.stamp ∙ was.0)
      | inr is ↦
          inr (inl (h.stamp ∙ is))
    ]

pub since_same : (s : Sheet) → IsSheetValid s → IsSheetSince s s
since_same s valid =
    record {
      valid = valid;
      last = omega arith;
      rows = λ x stamp v h. inl h;
      base = inl (refl, refl);
    }

pub since_changed : (t u w : Sheet) (e : Change) (number : ℕ) → IsSheetSince t u → IsChanged u e number w
    → IsSheetSince t w
since_changed t u w e number s c = record {
  valid = s.valid;
  last = omega (arith, s.last, c.later, c.last);
  rows =
      λ x stamp v h. elim
      (rows_go_on e number u.rows.items x stamp v (ap (row_of x) (sym c.rows) ∙ h))
      [ inl was ↦ s.rows x stamp v was | inr is ↦ inr (omega (arith, s.last, c.later, is)) ];
  base = elim (base_goes_on e number u.base_stamp u.base) [
    | inl was ↦ elim s.base [
      | inl same ↦ inl (c.stamp ∙ was.0 ∙ same.0, c.base ∙ was.1 ∙ same.1)
      | inr later ↦ inr (omega (arith, later, c.stamp, was.0))
    ]
    | inr is ↦ inr (omega (arith, s.last, c.later, c.stamp, is))
  ];
}

pub changes_valid : (t u : Sheet) (e : Change) (number : ℕ) → IsSheetValid t → IsChanged t e number u
    → IsSheetValid u
changes_valid t u e number valid c = record {
  rows =
      λ x stamp v h.
      elim (rows_go_on e number t.rows.items x stamp v (ap (row_of x) (sym c.rows) ∙ h)) [
        | inl was ↦ (let low = valid.rows x stamp v was in
            (low.0, omega (arith, low.1, c.later, c.last)))
        | inr is ↦ (omega (arith, is, c.later), omega (arith, is, c.last))
      ];
  base = elim (base_goes_on e number t.base_stamp t.base) [
    | inl was ↦ (let low = valid.base in omega (arith, low, c.later, c.last, c.stamp, was.0))
    | inr is ↦ omega (arith, c.last, c.stamp, is)
  ];
}

-- a row of one stamp is one row
row_again : (t u : Sheet) (x : ℕ) → IsSheetSince t u → (old new : Option (ℕ × ℕ))
    → row_of x t.rows.items ≡ old → row_of x u.rows.items ≡ new → stamp_or_zero new ≡ stamp_or_zero old
    → (g : ℕ) → holds_number old g ≡ true → holds_number new g ≡ true
row_again t u x s None new o n same g h = cc
row_again t u x s (Some r) None o n same g h =
    (let low = (s.valid).rows x r.0 r.1 o in absurd (omega (arith, low.0, same)))
row_again t u x s (Some r) (Some q) o n same g h = elim (s.rows x q.0 q.1 n) [
  | inl was ↦ (let e : some_pair q.0 q.1 ≡ some_pair r.0 r.1 = sym was ∙ o in
      ap (λ (v : ℕ). g == v) (some_value q.0 q.1 r.0 r.1 e) ∙ h)
  | inr later ↦ (let low = (s.valid).rows x r.0 r.1 o in absurd (omega (arith, low.1, same, later)))
]
  where
    some_value : (a b c d : ℕ) → some_pair a b ≡ some_pair c d → b ≡ d
    some_value a b c d h = ap value_in h

given_by : (t u : Sheet) (k : Kind) (x g : ℕ) → IsSheetSince t u
    → Each (IsSamePart (sheet_net t) (sheet_net u)) (sheet_inputs k x)
    → gives_in t.rows.items t.base k x g ≡ true → gives_in u.rows.items u.base k x g ≡ true
given_by t u Space x g s p h = elim s.base [
  | inl same ↦ ap (λ (b : ℕ). g == b) same.1 ∙ h
  | inr later ↦ (let low = (s.valid).base in absurd (omega (arith, low, later, p.0)))
]
given_by t u Group x g s p h = cc
given_by t u Check x g s p h = cc
given_by t u Verdict x g s p h =
    row_again t u x s (row_of x t.rows.items) (row_of x u.rows.items) refl refl p.0 g h

pub given_again : (t u : Sheet) (n : Node) (g : ℕ) → IsSheetValid u → IsSheetSince t u
    → sheet_inputs n.kind n.test ≡ sheet_inputs n.kind n.test
    → Each (IsSamePart (sheet_net t) (sheet_net u)) (sheet_inputs n.kind n.test)
    → gives_in t.rows.items t.base n.kind n.test g ≡ true
    → gives_in u.rows.items u.base n.kind n.test g ≡ true
given_again t u n g valid s same p h = given_by t u n.kind n.test g s p h
