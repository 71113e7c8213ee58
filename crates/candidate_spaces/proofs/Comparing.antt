-- What is left of candidates that are compared.
use Rattle.std.proofs.Common.{Vec, ℕ, zero, suc, ◌≡◌, ◌<◌, ◌≤◌, ◌+◌, List, [], ◌∷◌, ◌++◌, cond, true, false, Bool, take, ◌-◌, drop, drop-cons, add-one, get_or, length, map, nat_lt, Some, slice_get, ◌⊎◌, inl, inr, refl, ap, sym, subst, ◌∙◌, arith}
use Rattle.std.specs.declared.alloc.Global.{Global}
use Rattle.std.proofs.lemmas.Bool.{lt-ltb, le-ltb}
use Rattle.std.proofs.lemmas.List.{length-map, drop_all, take_all}
use Rattle.store_orders.specs.Lists.{lists_of}
use Rattle.candidate_spaces.specs.Same.{pairs_from, pairs_left, candidates_from, left_in}
use Rattle.candidate_spaces.specs.declared.same.Candidates.{Candidates}
use Rattle.store_orders.specs.Combinations.{pairs, candidates_of}
use Rattle.candidate_spaces.specs.Space.{candidates_in, Candidate}
use Rattle.store_orders.specs.declared.combination.Combination.{Combination}

-- from the first on all are left
no_pairs : (xs : List (List ℕ)) → pairs {Y = List ℕ} xs [] ≡ []
no_pairs [] = refl
no_pairs (x ∷ xs) = no_pairs xs

from_first : (xs ys : List (List ℕ)) → pairs_from xs ys 0 0 ≡ pairs xs ys
from_first [] ys = refl
from_first (x ∷ xs) ys = refl

all_pairs : (xs ys : List (List ℕ)) → pairs_left xs ys 0 0 ≡ pairs xs ys
all_pairs xs [] = sym (no_pairs xs)
all_pairs xs (y ∷ ys) =
    ap (λ (b : Bool). cond b (pairs_from xs (y ∷ ys) 0 0) [])
    (lt-ltb 0 (length (y ∷ ys)) (omega arith)) ∙ from_first xs (y ∷ ys)

pub all_left : (cs : List Combination) → candidates_from cs 0 0 ≡ candidates_in cs
unfolding candidates_of
all_left [] = refl
all_left (c ∷ cs) =
    ap (λ (l : List (List ℕ × List ℕ)). map (λ t. (c, t)) l ++ candidates_in cs)
    (all_pairs (lists_of c.reads_from.items) c.orders)

-- the next one, in a row and at its end
pairs_step : (xs ys : List (List ℕ)) (i j : ℕ) → i < length xs → j < length ys
    → pairs_from xs ys i j ≡ (get_or xs i [], get_or ys j []) ∷ pairs_from xs ys i (suc j)
pairs_step [] ys i j li lj = absurd (omega (arith, li))
pairs_step (x ∷ xs) ys zero j li lj =
    ap (λ (l : List (List ℕ)). map (λ y. (x, y)) l ++ pairs xs ys) (drop-cons ys j [] lj)
pairs_step (x ∷ xs) ys (suc i) j li lj = pairs_step xs ys i j (omega (arith, li)) lj

pairs_row : (xs ys : List (List ℕ)) (i j : ℕ) → length ys ≤ j
    → pairs_from xs ys i j ≡ pairs_from xs ys (suc i) 0
pairs_row [] ys i j le = refl
pairs_row (x ∷ xs) ys zero j le =
    ap (λ (l : List (List ℕ)). map (λ y. (x, y)) l ++ pairs xs ys) (drop_all j ys le)
    ∙ sym (from_first xs ys)
pairs_row (x ∷ xs) ys (suc i) j le = pairs_row xs ys i j le

left_there : (xs ys : List (List ℕ)) (i j : ℕ) → j < length ys
    → pairs_left xs ys i j ≡ pairs_from xs ys i j
left_there xs ys i j lj =
    ap (λ (b : Bool). cond b (pairs_from xs ys i j) []) (lt-ltb j (length ys) lj)

in_row : (xs ys : List (List ℕ)) (i j k : ℕ) → k ≡ j + 1 → i < length xs → k < length ys
    → pairs_left xs ys i j ≡ (get_or xs i [], get_or ys j []) ∷ pairs_left xs ys i k
in_row xs ys i j k e li lk =
    left_there xs ys i j (omega (arith, e, lk)) ∙ pairs_step xs ys i j li (omega (arith, e, lk))
    ∙ ap (λ (n : ℕ). (get_or xs i [], get_or ys j []) ∷ pairs_from xs ys i n)
    (sym (add-one j) ∙ sym e)
    ∙ ap (λ (l : List (List ℕ × List ℕ)). (get_or xs i [], get_or ys j []) ∷ l)
    (sym (left_there xs ys i k lk))

row_end : (xs ys : List (List ℕ)) (i j k : ℕ) → k ≡ i + 1 → i < length xs → j < length ys
    → j + 1 ≡ length ys
    → pairs_left xs ys i j ≡ (get_or xs i [], get_or ys j []) ∷ pairs_left xs ys k 0
row_end xs ys i j k e li lj at =
    left_there xs ys i j lj ∙ pairs_step xs ys i j li lj
    ∙ ap (λ (l : List (List ℕ × List ℕ)). (get_or xs i [], get_or ys j []) ∷ l)
    (pairs_row xs ys i (suc j) (omega (arith, at))
    ∙ ap (λ (n : ℕ). pairs_from xs ys n 0) (sym (add-one i) ∙ sym e)
    ∙ sym (left_there xs ys k 0 (omega (arith, lj))))

none_left : (xs ys : List (List ℕ)) (i j : ℕ) → (length xs ≤ i) ⊎ (length ys ≤ j)
    → pairs_left xs ys i j ≡ []
none_left xs ys i j (inr le) =
    ap (λ (b : Bool). cond b (pairs_from xs ys i j) []) (le-ltb j (length ys) le)
none_left xs ys i j (inl le) =
    ap (λ (l : List (List ℕ × List ℕ)). cond (nat_lt j (length ys)) l []) (past xs i le)
    ∙ both (nat_lt j (length ys))
  where
    empty : List (List ℕ × List ℕ)
    empty = []

    past : (xs : List (List ℕ)) (i : ℕ) → length xs ≤ i → pairs_from xs ys i j ≡ []
    past [] i le = refl
    past (x ∷ xs) zero le = absurd (omega (arith, le))
    past (x ∷ xs) (suc i) le = past xs i (omega (arith, le))

    both : (b : Bool) → cond b empty empty ≡ empty
    both true = refl
    both false = refl

-- of combinations
item_at : (vs : List (Vec ℕ Global)) (i : ℕ) (v : Vec ℕ Global) → i < length vs → v ≡ get_or vs i v
    → get_or (lists_of vs) i [] ≡ v.items
item_at [] i v lt e = absurd (omega (arith, lt))
item_at (u ∷ vs) zero v lt e = ap (λ (x : Vec ℕ Global). x.items) (sym e)
item_at (u ∷ vs) (suc i) v lt e = item_at vs i v (omega (arith, lt)) e

lists_long : (vs : List (Vec ℕ Global)) → length (lists_of vs) ≡ length vs
lists_long vs = length-map vs (λ (v : Vec ℕ Global). v.items)

-- the candidate at the indices, and those from others on
module _ (cs : List Combination) (c : Combination) (i j : ℕ) (v : Vec ℕ Global) (w : List ℕ)
    (first : Some c ≡ slice_get cs 0) (li : i < length c.reads_from.items) (lj : j < length c.orders)
    (source : v ≡ get_or c.reads_from.items i v) (order : w ≡ get_or c.orders j []) where
  abbrev there : List ℕ × List ℕ
  there = (get_or (lists_of c.reads_from.items) i [], get_or c.orders j [])

  abbrev one : List ℕ × List ℕ
  one = (v.items, w)

  found : there ≡ one
  found =
      ap (λ (x : List ℕ). let p : List ℕ × List ℕ = (x, get_or c.orders j []) in p)
      (item_at c.reads_from.items i v li source)
      ∙ ap (λ (x : List ℕ). let p : List ℕ × List ℕ = (v.items, x) in p) (sym order)

  with_rest : (cs : List Combination) → Some c ≡ slice_get cs 0 → (m n : ℕ)
      → pairs_left (lists_of c.reads_from.items) c.orders i j
      ≡ (v.items, w) ∷ pairs_left (lists_of c.reads_from.items) c.orders m n
      → candidates_from cs i j ≡ (c, (v.items, w)) ∷ candidates_from cs m n
  with_rest [] e m n h = absurd cc
  with_rest (d ∷ ds) e m n h =
      let same : d ≡ c = cc in
      subst
      (λ (x : Combination). candidates_from (x ∷ ds) i j
      ≡ (c, (v.items, w)) ∷ candidates_from (x ∷ ds) m n)
      (sym same)
      (ap (λ (l : List (List ℕ × List ℕ)). map (λ t. (c, t)) l ++ candidates_in ds) h)

  pub next_in_row : (k : ℕ) → k ≡ j + 1 → (k ≡ length c.orders → ⊥)
      → candidates_from cs i j ≡ (c, (v.items, w)) ∷ candidates_from cs i k
  next_in_row k e no_end =
      with_rest cs first i k
      (in_row (lists_of c.reads_from.items) c.orders i j k e
      (omega (arith, li, lists_long c.reads_from.items)) (omega (arith, lj, e, no_end))
      ∙ ap (λ (x : List ℕ × List ℕ). x ∷ pairs_left (lists_of c.reads_from.items) c.orders i k) found)

  pub next_row : (k : ℕ) → k ≡ i + 1 → j + 1 ≡ length c.orders
      → candidates_from cs i j ≡ (c, (v.items, w)) ∷ candidates_from cs k 0
  next_row k e at =
      with_rest cs first k 0
      (row_end (lists_of c.reads_from.items) c.orders i j k e
      (omega (arith, li, lists_long c.reads_from.items)) lj at
      ∙ ap (λ (x : List ℕ × List ℕ). x ∷ pairs_left (lists_of c.reads_from.items) c.orders k 0) found)

-- a combination of which none is left
pub passed : (cs : List Combination) (c : Combination) (i j : ℕ) → Some c ≡ slice_get cs 0
    → (length c.reads_from.items ≤ i) ⊎ (length c.orders ≤ j)
    → candidates_from cs i j ≡ candidates_from (take (length cs - 1) (drop 1 cs)) 0 0
passed [] c i j first past = absurd cc
passed (d ∷ cs) c i j first past =
    ap (λ (l : List (List ℕ × List ℕ)). map (λ t. (d, t)) l ++ candidates_in cs)
    (none_left (lists_of d.reads_from.items) d.orders i j (turned past))
    ∙ sym (all_left cs)
    ∙ ap (λ (l : List Combination). candidates_from l 0 0)
    (sym (take_all (length (d ∷ cs) - 1) cs (omega arith)))
  where
    same : c ≡ d
    same = cc

    turned : (length c.reads_from.items ≤ i) ⊎ (length c.orders ≤ j)
        → (length (lists_of d.reads_from.items) ≤ i) ⊎ (length d.orders ≤ j)
    turned (inl le) =
        inl (subst (λ (x : Combination). length (lists_of x.reads_from.items) ≤ i) same
        (omega (arith, le, lists_long c.reads_from.items)))
    turned (inr le) = inr (subst (λ (x : Combination). length x.orders ≤ j) same le)

-- with the lists that the next one shows
abbrev behind : Combination → List ℕ → List ℕ → List Candidate → List Candidate
behind c a b xs = (c, (a, b)) ∷ xs

pub shows_next : (c : Combination) (a b a' b' : List ℕ) (x y : Candidates) → a' ≡ a → b' ≡ b → y ≡ x
    → behind c a b (left_in x) ≡ behind c a' b' (left_in y)
shows_next c a b a' b' x y s o e =
    ap (λ (l : List ℕ). behind c l b (left_in x)) (sym s)
    ∙ ap (λ (l : List ℕ). behind c a' l (left_in x)) (sym o)
    ∙ ap (λ (z : Candidates). behind c a' b' (left_in z)) (sym e)
