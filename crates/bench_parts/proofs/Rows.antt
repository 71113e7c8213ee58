-- Rows by number: what stands beside the first row of a number.
use Rattle.std.proofs.Common.{ℕ, zero, suc, ◌+◌, ◌-◌, ◌<◌, ◌≤◌, ◌≡◌, ◌==◌, Bool, true, false, if◌then◌else◌, not, cond, List, [], ◌∷◌, length, Vec, Option, Some, None, slice_get, refl, ap, sym, ◌∙◌, eqb-true, arith}
use Rattle.std.specs.List.{position_or_len}
use Rattle.std.specs.declared.alloc.Global.{Global}
use Rattle.std.proofs.lemmas.Option.{same_Some}
use Rattle.text_values.specs.declared.test.Test.{Test}
use Rattle.memo_core.specs.declared.keys.Kind.{Kind}
use Rattle.binding_kinds.specs.declared.fault.ModelFault.{ModelFault}
use Rattle.bench_nodes.specs.declared.table.ItemRow.{ItemRow}
use Rattle.bench_nodes.specs.declared.table.ModelRow.{ModelRow}
use Rattle.bench_nodes.specs.declared.table.TestRow.{TestRow}
use Rattle.bench_nodes.specs.Nodes.{row_of}
use Rattle.bench_items.specs.declared.items.SharedItem.{SharedItem}
use Rattle.bench_parts.specs.Contents.{PartContent, role_part, item_content, fault_part, fault_content, test_part, test_content}
use Rattle.bench_parts.specs.States.{is_kind, has_kind}
use Rattle.bench_parts.specs.Views.{FoundTest, view_of}

-- ---- two lists

-- what is beside the first of that number
abbrev beside : {X Y Z : Type 0} → (X → ℕ) → (Y → Z) → Z → List X → List Y → ℕ → Z
beside number f none [] ys n = none
beside number f none (x ∷ xs) [] n = none
beside number f none (x ∷ xs) (y ∷ ys) n =
    if number x == n then f y else beside number f none xs ys n

module _ {X Y Z : Type 0} (number : X → ℕ) (f : Y → Z) (none : Z) (n : ℕ) where
  beside_at : (xs : List X) (ys : List Y) (i : ℕ) (y : Y)
      → position_or_len (λ x. number x == n) xs ≡ i → i < length xs → slice_get ys i ≡ Some y
      → beside number f none xs ys n ≡ f y
  beside_at [] ys i y p lt at = absurd (omega arith)
  beside_at (x ∷ xs) [] i y p lt at = absurd (let e : None ≡ Some y = at in cc)
  beside_at (x ∷ xs) (z ∷ zs) zero y p lt at = by_test (number x == n) p
    where
      by_test : (b : Bool) → cond (not b) (1 + position_or_len (λ x. number x == n) xs) 0 ≡ 0
          → (if b then f z else beside number f none xs zs n) ≡ f y
      by_test true p = ap f (same_Some z y at)
      by_test false p = absurd (omega (arith, p))
  beside_at (x ∷ xs) (z ∷ zs) (suc i) y p lt at =
      by_test (number x == n) p (λ q. beside_at xs zs i y q (omega (arith, lt)) at)
    where
      by_test : (b : Bool) → cond (not b) (1 + position_or_len (λ x. number x == n) xs) 0 ≡ suc i
          → (position_or_len (λ x. number x == n) xs ≡ i → beside number f none xs zs n ≡ f y)
          → (if b then f z else beside number f none xs zs n) ≡ f y
      by_test true p later = absurd (omega (arith, p))
      by_test false p later = later (omega (arith, p))

  beside_past : (xs : List X) (ys : List Y) (i : ℕ) → position_or_len (λ x. number x == n) xs ≡ i
      → length xs ≤ i → beside number f none xs ys n ≡ none
  beside_past [] ys i p past = refl
  beside_past (x ∷ xs) [] i p past = refl
  beside_past (x ∷ xs) (z ∷ zs) i p past =
      by_test (number x == n) p (λ q r. beside_past xs zs (i - 1) q r)
    where
      by_test : (b : Bool) → cond (not b) (1 + position_or_len (λ x. number x == n) xs) 0 ≡ i
          → (position_or_len (λ x. number x == n) xs ≡ i - 1 → length xs ≤ i - 1
          → beside number f none xs zs n ≡ none)
          → (if b then f z else beside number f none xs zs n) ≡ none
      by_test true p later = absurd (omega (arith, p, past))
      by_test false p later = later (omega (arith, p)) (omega (arith, p, past))

  beside_short : (xs : List X) (ys : List Y) (i : ℕ) → position_or_len (λ x. number x == n) xs ≡ i
      → length ys ≤ i → beside number f none xs ys n ≡ none
  beside_short [] ys i p past = refl
  beside_short (x ∷ xs) [] i p past = refl
  beside_short (x ∷ xs) (z ∷ zs) i p past =
      by_test (number x == n) p (λ q r. beside_short xs zs (i - 1) q r)
    where
      by_test : (b : Bool) → cond (not b) (1 + position_or_len (λ x. number x == n) xs) 0 ≡ i
          → (position_or_len (λ x. number x == n) xs ≡ i - 1 → length zs ≤ i - 1
          → beside number f none xs zs n ≡ none)
          → (if b then f z else beside number f none xs zs n) ≡ none
      by_test true p later = absurd (omega (arith, p, past))
      by_test false p later = later (omega (arith, p)) (omega (arith, p, past))

-- ---- items and models

item_beside : (is : List ItemRow) (rs : List (Option SharedItem)) (n : ℕ)
    → item_content is rs n ≡ beside (λ i. i.number) role_part None is rs n
item_beside [] rs n = refl
item_beside (i ∷ is) [] n = refl
item_beside (i ∷ is) (r ∷ rs) n =
    ap (λ (o : Option PartContent). if i.number == n then role_part r else o) (item_beside is rs n)

pub item_at : (is : List ItemRow) (rs : List (Option SharedItem)) (n i : ℕ) (r : Option SharedItem)
    → position_or_len (λ x. x.number == n) is ≡ i → i < length is → slice_get rs i ≡ Some r
    → item_content is rs n ≡ role_part r
item_at is rs n i r p lt at =
    item_beside is rs n ∙ beside_at (λ x. x.number) role_part None n is rs i r p lt at

pub no_item : (is : List ItemRow) (rs : List (Option SharedItem)) (n i : ℕ)
    → position_or_len (λ x. x.number == n) is ≡ i → length is ≤ i → item_content is rs n ≡ None
no_item is rs n i p past =
    item_beside is rs n ∙ beside_past (λ x. x.number) role_part None n is rs i p past

pub no_role : (is : List ItemRow) (rs : List (Option SharedItem)) (n i : ℕ)
    → position_or_len (λ x. x.number == n) is ≡ i → length rs ≤ i → item_content is rs n ≡ None
no_role is rs n i p past =
    item_beside is rs n ∙ beside_short (λ x. x.number) role_part None n is rs i p past

fault_beside : (ms : List ModelRow) (fs : List (Option ModelFault)) (n : ℕ)
    → fault_content ms fs n ≡ beside (λ m. m.id) fault_part None ms fs n
fault_beside [] fs n = refl
fault_beside (m ∷ ms) [] n = refl
fault_beside (m ∷ ms) (f ∷ fs) n =
    ap (λ (o : Option PartContent). if m.id == n then fault_part f else o) (fault_beside ms fs n)

pub fault_at : (ms : List ModelRow) (fs : List (Option ModelFault)) (n i : ℕ)
    (f : Option ModelFault) → position_or_len (λ x. x.id == n) ms ≡ i → i < length ms
    → slice_get fs i ≡ Some f → fault_content ms fs n ≡ fault_part f
fault_at ms fs n i f p lt at =
    fault_beside ms fs n ∙ beside_at (λ x. x.id) fault_part None n ms fs i f p lt at

pub no_model : (ms : List ModelRow) (fs : List (Option ModelFault)) (n i : ℕ)
    → position_or_len (λ x. x.id == n) ms ≡ i → length ms ≤ i → fault_content ms fs n ≡ None
no_model ms fs n i p past =
    fault_beside ms fs n ∙ beside_past (λ x. x.id) fault_part None n ms fs i p past

pub no_fault : (ms : List ModelRow) (fs : List (Option ModelFault)) (n i : ℕ)
    → position_or_len (λ x. x.id == n) ms ≡ i → length fs ≤ i → fault_content ms fs n ≡ None
no_fault ms fs n i p past =
    fault_beside ms fs n ∙ beside_short (λ x. x.id) fault_part None n ms fs i p past

kind_beside : (is : List ItemRow) (ks : List (Option Kind)) (kind : Kind) (n : ℕ)
    → has_kind is ks kind n ≡ beside (λ i. i.number) (is_kind kind) false is ks n
kind_beside [] ks kind n = refl
kind_beside (i ∷ is) [] kind n = refl
kind_beside (i ∷ is) (k ∷ ks) kind n =
    ap (λ (b : Bool). if i.number == n then is_kind kind k else b) (kind_beside is ks kind n)

pub kind_at : (is : List ItemRow) (ks : List (Option Kind)) (kind : Kind) (n i : ℕ)
    (k : Option Kind) → position_or_len (λ x. x.number == n) is ≡ i → i < length is
    → slice_get ks i ≡ Some k → has_kind is ks kind n ≡ is_kind kind k
kind_at is ks kind n i k p lt at =
    kind_beside is ks kind n ∙ beside_at (λ x. x.number) (is_kind kind) false n is ks i k p lt at

pub no_kind : (is : List ItemRow) (ks : List (Option Kind)) (kind : Kind) (n i : ℕ)
    → position_or_len (λ x. x.number == n) is ≡ i → length is ≤ i → has_kind is ks kind n ≡ false
no_kind is ks kind n i p past =
    kind_beside is ks kind n ∙ beside_past (λ x. x.number) (is_kind kind) false n is ks i p past

pub short_kinds : (is : List ItemRow) (ks : List (Option Kind)) (kind : Kind) (n i : ℕ)
    → position_or_len (λ x. x.number == n) is ≡ i → length ks ≤ i → has_kind is ks kind n ≡ false
short_kinds is ks kind n i p past =
    kind_beside is ks kind n ∙ beside_short (λ x. x.number) (is_kind kind) false n is ks i p past

-- ---- tests, with their rows and locations

pub view_at : (id : ℕ) (rs : List TestRow) (ts : List Test) (ls : List (Vec (List ℕ) Global))
    (i : ℕ) (r : TestRow) (t : Test) (l : Vec (List ℕ) Global)
    → position_or_len (λ x. x.id == id) rs ≡ i → slice_get rs i ≡ Some r → slice_get ts i ≡ Some t
    → slice_get ls i ≡ Some l
    → view_of rs ts ls id ≡ Some (record { row = r; test = t; locations = l.items })
view_at id [] ts ls i r t l p a b c = absurd (let e : None ≡ Some r = a in cc)
view_at id (x ∷ xs) [] ls i r t l p a b c = absurd (let e : None ≡ Some t = b in cc)
view_at id (x ∷ xs) (y ∷ ys) [] i r t l p a b c = absurd (let e : None ≡ Some l = c in cc)
view_at id (x ∷ xs) (y ∷ ys) (z ∷ zs) zero r t l p a b c = by_test (x.id == id) p
  where
    by_test : (d : Bool) → cond (not d) (1 + position_or_len (λ x. x.id == id) xs) 0 ≡ 0
        → (if d then Some (record { row = x; test = y; locations = z.items })
        else view_of xs ys zs id)
        ≡ Some (record { row = r; test = t; locations = l.items })
    by_test true p =
        let e = same_Some x r a in let f = same_Some y t b in let g = same_Some z l c in cc
    by_test false p = absurd (omega (arith, p))
view_at id (x ∷ xs) (y ∷ ys) (z ∷ zs) (suc i) r t l p a b c =
    by_test (x.id == id) p (λ q. view_at id xs ys zs i r t l q a b c)
  where
    by_test : (d : Bool) → cond (not d) (1 + position_or_len (λ x. x.id == id) xs) 0 ≡ suc i
        → (position_or_len (λ x. x.id == id) xs ≡ i
        → view_of xs ys zs id ≡ Some (record { row = r; test = t; locations = l.items }))
        → (if d then Some (record { row = x; test = y; locations = z.items })
        else view_of xs ys zs id)
        ≡ Some (record { row = r; test = t; locations = l.items })
    by_test true p later = absurd (omega (arith, p))
    by_test false p later = later (omega (arith, p))

-- one of the lists ends before the row
pub no_view : (id : ℕ) (rs : List TestRow) (ts : List Test) (ls : List (Vec (List ℕ) Global))
    (i : ℕ) → position_or_len (λ x. x.id == id) rs ≡ i
    → (i < length rs → i < length ts → i < length ls → ⊥) → view_of rs ts ls id ≡ None
no_view id [] ts ls i p short = refl
no_view id (x ∷ xs) [] ls i p short = refl
no_view id (x ∷ xs) (y ∷ ys) [] i p short = refl
no_view id (x ∷ xs) (y ∷ ys) (z ∷ zs) i p short =
    by_test (x.id == id) p (λ q far. no_view id xs ys zs (i - 1) q far)
  where
    by_test : (d : Bool) → cond (not d) (1 + position_or_len (λ x. x.id == id) xs) 0 ≡ i
        → (position_or_len (λ x. x.id == id) xs ≡ i - 1
        → (i - 1 < length xs → i - 1 < length ys → i - 1 < length zs → ⊥)
        → view_of xs ys zs id ≡ None)
        → (if d then Some (record { row = x; test = y; locations = z.items })
        else view_of xs ys zs id) ≡ None
    by_test true p later = absurd (short (omega (arith, p)) (omega (arith, p)) (omega (arith, p)))
    by_test false p later =
        later (omega (arith, p)) (λ l m n.
        short (omega (arith, p, l)) (omega (arith, p, m)) (omega (arith, p, n)))

abbrev pub part_in : ℕ → Option FoundTest → Option PartContent
part_in part None = None
part_in part (Some v) = test_part v.test v.locations part

pub test_in : (rs : List TestRow) (ts : List Test) (ls : List (Vec (List ℕ) Global)) (part id : ℕ)
    → test_content rs ts ls part id ≡ part_in part (view_of rs ts ls id)
test_in [] ts ls part id = refl
test_in (r ∷ rs) [] ls part id = refl
test_in (r ∷ rs) (t ∷ ts) [] part id = refl
test_in (r ∷ rs) (t ∷ ts) (l ∷ ls) part id = by_test (r.id == id) (test_in rs ts ls part id)
  where
    by_test : (b : Bool) → test_content rs ts ls part id ≡ part_in part (view_of rs ts ls id)
        → (if b then test_part t l.items part else test_content rs ts ls part id)
        ≡ part_in part (if b then Some (record { row = r; test = t; locations = l.items })
        else view_of rs ts ls id)
    by_test true later = refl
    by_test false later = later

-- the row of a test that is found is the first of its number
pub row_in : (rs : List TestRow) (ts : List Test) (ls : List (Vec (List ℕ) Global)) (id : ℕ)
    (v : FoundTest) → view_of rs ts ls id ≡ Some v → row_of rs id ≡ Some v.row
row_in [] ts ls id v e = absurd (let f : None ≡ Some v = e in cc)
row_in (r ∷ rs) [] ls id v e = absurd (let f : None ≡ Some v = e in cc)
row_in (r ∷ rs) (t ∷ ts) [] id v e = absurd (let f : None ≡ Some v = e in cc)
row_in (r ∷ rs) (t ∷ ts) (l ∷ ls) id v e = by_test (r.id == id) e (λ f. row_in rs ts ls id v f)
  where
    by_test : (b : Bool)
        → (if b then Some (record { row = r; test = t; locations = l.items })
        else view_of rs ts ls id) ≡ Some v
        → (view_of rs ts ls id ≡ Some v → row_of rs id ≡ Some v.row)
        → (if b then Some r else row_of rs id) ≡ Some v.row
    by_test true e later =
        ap (λ (w : FoundTest). Some w.row) (same_Some
        (record { row = r; test = t; locations = l.items }) v e)
    by_test false e later = later e

pub row_number : (rs : List TestRow) (id : ℕ) (r : TestRow) → row_of rs id ≡ Some r → r.id ≡ id
row_number [] id r e = absurd (let f : None ≡ Some r = e in cc)
row_number (x ∷ xs) id r e = by_test (x.id == id) refl e (λ f. row_number xs id r f)
  where
    by_test : (b : Bool) → (x.id == id) ≡ b → (if b then Some x else row_of xs id) ≡ Some r
        → (row_of xs id ≡ Some r → r.id ≡ id) → r.id ≡ id
    by_test true t e later = ap (λ (y : TestRow). y.id) (sym (same_Some x r e)) ∙ eqb-true x.id id t
    by_test false t e later = later e
