-- Counting kept candidates by rows and by columns.
use Rattle.std.proofs.Common.{ℕ, suc, ◌+◌, ◌-◌, ◌<◌, ◌≤◌, Bool, true, false, ◌&&◌, cond, ◌≡◌, List, [], ◌∷◌, ◌++◌, length, get_or, map, take, drop, refl, sym, ap, ◌∙◌, arith, zero-add, min, ⊎_elim}
use Rattle.std.proofs.lemmas.List.{take_more, append-nil, length-map, length-take-le, length-append, get_or-drop, drop-drop, drop_all}
use Rattle.std.proofs.lemmas.Bool.{cases_lt}
use Rattle.std.proofs.lemmas.List.Concat.{flat_map-append}
use Rattle.store_orders.specs.Lists.{lists_of}
use Rattle.store_orders.specs.Combinations.{pairs, candidates_of}
use Rattle.candidate_spaces.specs.Space.{candidates_in}
use Rattle.store_orders.specs.declared.combination.Combination.{Combination}
use Rattle.outcome_states.specs.Kept.{holds_at}
use Rattle.outcome_states.specs.Counting.{count_kept, count_column}

pub column_more : (read_choices i width column : ℕ) (rest : List Bool) → i < read_choices
    → count_column (read_choices - i) width column rest
    ≡ cond (holds_at column rest) 1 0
    + count_column (read_choices - (i + 1)) width column (drop width rest)
unfolding count_column
column_more read_choices i width column rest lt =
    let e : read_choices - i ≡ suc (read_choices - (i + 1)) = omega arith in
    ap (λ (n : ℕ). count_column n width column rest) e

pub column_none : (read_choices i width column : ℕ) (rest : List Bool) → read_choices ≤ i
    → count_column (read_choices - i) width column rest ≡ 0
unfolding count_column
column_none read_choices i width column rest past =
    let e : read_choices - i ≡ 0 = omega arith in
    ap (λ (n : ℕ). count_column n width column rest) e

-- what the orders that pass have in their columns
unfoldable pub by_orders : (List ℕ → Bool) → ℕ → ℕ → ℕ → List Bool → List (List ℕ) → ℕ
by_orders test rows width k kept [] = 0
by_orders test rows width k kept (o ∷ os) =
    cond (test o) (count_column rows width k kept) 0 + by_orders test rows width (k + 1) kept os

by_orders_push : (test : List ℕ → Bool) (rows width k : ℕ) (kept : List Bool) (os : List (List ℕ))
    (o : List ℕ)
    → by_orders test rows width k kept (os ++ o ∷ [])
    ≡ by_orders test rows width k kept os
    + cond (test o) (count_column rows width (k + length os) kept) 0
unfolding by_orders
by_orders_push test rows width k kept [] o =
    let e : k + 0 ≡ k = omega arith in
    let f : cond (test o) (count_column rows width (k + 0) kept) 0 ≡ cond (test o) (count_column rows width k kept) 0 = ap (λ (n : ℕ). cond (test o) (count_column rows width n kept) 0) e in
    omega arith
by_orders_push test rows width k kept (p ∷ os) o =
    let e : (k + 1) + length os ≡ k + suc (length os) = omega arith in
    let f : cond (test o) (count_column rows width ((k + 1) + length os) kept) 0 ≡ cond (test o) (count_column rows width (k + suc (length os)) kept) 0 = ap (λ (n : ℕ). cond (test o) (count_column rows width n kept) 0) e in
    let h : by_orders test rows width (k + 1) kept (os ++ o ∷ []) ≡ by_orders test rows width (k + 1) kept os + cond (test o) (count_column rows width ((k + 1) + length os) kept) 0 = by_orders_push test rows width (k + 1) kept os o in
    omega arith

pub one_order_more : (test : List ℕ → Bool) (rows width : ℕ) (kept : List Bool) (os : List (List ℕ))
    (i : ℕ) (o d : List ℕ) → i < length os → o ≡ get_or os i d
    → by_orders test rows width 0 kept (take (i + 1) os)
    ≡ by_orders test rows width 0 kept (take i os)
    + cond (test o) (count_column rows width i kept) 0
one_order_more test rows width kept os i o d lt is =
    let e : 0 + length (take i os) ≡ i = omega (arith, length-take-le i os (omega arith)) in
    ap (by_orders test rows width 0 kept) (take_more os i d lt
    ∙ ap (λ (x : List ℕ). take i os ++ x ∷ []) (sym is))
    ∙ by_orders_push test rows width 0 kept (take i os) o
    ∙ ap
    (λ (n : ℕ). by_orders test rows width 0 kept (take i os)
    + cond (test o) (count_column rows width n kept) 0) e

-- one row
row : (List ℕ → Bool) → ℕ → List Bool → List (List ℕ) → ℕ
row test k kept [] = 0
row test k kept (o ∷ os) = cond (test o) (cond (holds_at k kept) 1 0) 0 + row test (k + 1) kept os

spread : (b : Bool) (bit col more rest : ℕ)
    → cond b (bit + col) 0 + (more + rest) ≡ (cond b bit 0 + more) + (cond b col 0 + rest)
spread true bit col more rest = omega arith
spread false bit col more rest = omega arith

first_row : (test : List ℕ → Bool) (rows width k : ℕ) (kept : List Bool) (os : List (List ℕ))
    → by_orders test (suc rows) width k kept os
    ≡ row test k kept os + by_orders test rows width k (drop width kept) os
unfolding by_orders row count_column
first_row test rows width k kept [] = refl
first_row test rows width k kept (o ∷ os) =
    ap
    (λ (n : ℕ). cond (test o)
    (cond (holds_at k kept) 1 0 + count_column rows width k (drop width kept)) 0 + n)
    (first_row test rows width (k + 1) kept os)
    ∙ spread (test o) (cond (holds_at k kept) 1 0) (count_column rows width k (drop width kept))
    (row test (k + 1) kept os) (by_orders test rows width (k + 1) (drop width kept) os)

no_row : (test : List ℕ → Bool) (width k : ℕ) (kept : List Bool) (os : List (List ℕ))
    → by_orders test 0 width k kept os ≡ 0
unfolding by_orders count_column
no_row test width k kept [] = refl
no_row test width k kept (o ∷ os) =
    let h : by_orders test 0 width (k + 1) kept os ≡ 0 = no_row test width (k + 1) kept os in
    elim (test o) as (λ b. cond b 0 0 + by_orders test 0 width (k + 1) kept os ≡ 0)
    [ true ↦ omega arith | false ↦ omega arith ]

bit : Bool → ℕ
bit b = cond b 1 0

swapped : (a b : Bool) → cond b (bit a) 0 ≡ bit (a && b)
unfolding bit
swapped true true = refl
swapped true false = refl
swapped false true = refl
swapped false false = refl

row_kept : (test : List ℕ → Bool) (x : List ℕ) (k : ℕ) (kept : List Bool) (os : List (List ℕ))
    → row test k kept os
    ≡ count_kept (λ (t : List ℕ × List ℕ). test t.1) (drop k kept) (map (λ y. (x, y)) os)
unfolding row count_kept bit
row_kept test x k kept [] = refl
row_kept test x k kept (o ∷ os) =
    ap (λ (n : ℕ). cond (test o) (cond (holds_at k kept) 1 0) 0 + n)
    (row_kept test x (k + 1) kept os
    ∙ ap
    (λ (l : List Bool).
    count_kept (λ (t : List ℕ × List ℕ). test t.1) l (map (λ y. (x, y)) os)) next)
    ∙ ap (λ (n : ℕ). n
    + count_kept (λ (t : List ℕ × List ℕ). test t.1) (drop 1 (drop k kept))
    (map (λ y. (x, y)) os))
    (swapped (holds_at k kept) (test o) ∙ ap (λ (b : Bool). bit (b && test o)) here)
  where
    next : drop (k + 1) kept ≡ drop 1 (drop k kept)
    next = sym (drop-drop 1 k kept)

    here : holds_at k kept ≡ holds_at 0 (drop k kept)
    here =
        let e : k + 0 ≡ k = omega arith in
        sym (get_or-drop k kept 0 false ∙ ap (λ (n : ℕ). get_or kept n false) e)

pub count_kept-append : {X : Type 0} (test : X → Bool) (kept : List Bool) (xs ys : List X)
    → count_kept test kept (xs ++ ys)
    ≡ count_kept test kept xs + count_kept test (drop (length xs) kept) ys
unfolding count_kept
count_kept-append test kept [] ys = sym (zero-add (count_kept test kept ys))
count_kept-append {X} test kept (x ∷ xs) ys =
    let n : 1 + length xs ≡ suc (length xs) = omega arith in
    let e : drop (length xs) (drop 1 kept) ≡ drop (suc (length xs)) kept = drop-drop (length xs) 1 kept ∙ ap (λ (m : ℕ). drop m kept) n in
    let h : count_kept test (drop 1 kept) (xs ++ ys) ≡ count_kept test (drop 1 kept) xs + count_kept test (drop (length xs) (drop 1 kept)) ys = count_kept-append test (drop 1 kept) xs ys in
    let f : count_kept test (drop (length xs) (drop 1 kept)) ys ≡ count_kept test (drop (suc (length xs)) kept) ys = ap (λ (l : List Bool). count_kept test l ys) e in
    omega arith

pub count_kept-map : {X Y : Type 0} (f : X → Y) (test : Y → Bool) (kept : List Bool) (xs : List X)
    → count_kept test kept (map f xs) ≡ count_kept (λ x. test (f x)) kept xs
unfolding count_kept
count_kept-map f test kept [] = refl
count_kept-map f test kept (x ∷ xs) =
    ap (λ (n : ℕ). cond (holds_at 0 kept && test (f x)) 1 0 + n)
    (count_kept-map f test (drop 1 kept) xs)

-- rows of a width, and columns
pairs_kept : (test : List ℕ → Bool) (kept : List Bool) (xs os : List (List ℕ))
    → count_kept (λ (t : List ℕ × List ℕ). test t.1) kept (pairs xs os)
    ≡ by_orders test (length xs) (length os) 0 kept os
pairs_kept test kept [] os = unfold count_kept in sym (no_row test (length os) 0 kept os)
pairs_kept test kept (x ∷ xs) os =
    count_kept-append (λ (t : List ℕ × List ℕ). test t.1) kept (map (λ y. (x, y)) os) (pairs xs os)
    ∙ ap
    (λ (n : ℕ). n
    + count_kept (λ (t : List ℕ × List ℕ). test t.1)
    (drop (length {A = List ℕ × List ℕ} (map (λ y. (x, y)) os)) kept) (pairs xs os))
    (sym (row_kept test x 0 kept os))
    ∙ ap
    (λ (n : ℕ). row test 0 kept os
    + count_kept (λ (t : List ℕ × List ℕ). test t.1) (drop n kept) (pairs xs os)) wide
    ∙ ap (λ (n : ℕ). row test 0 kept os + n) (pairs_kept test (drop (length os) kept) xs os)
    ∙ sym (first_row test (length xs) (length os) 0 kept os)
  where
    wide : length {A = List ℕ × List ℕ} (map (λ y. (x, y)) os) ≡ length os
    wide = length-map os (λ y. (x, y))

-- the candidates of a combination, by their orders
pub combination_kept : (test : List ℕ → Bool) (kept : List Bool) (c : Combination)
    → count_kept (λ (t : List ℕ × List ℕ). test t.1) kept (candidates_of c)
    ≡ by_orders test (length c.reads_from.items) (length c.orders) 0 kept c.orders
unfolding candidates_of
combination_kept test kept c =
    pairs_kept test kept (lists_of c.reads_from.items) c.orders
    ∙ ap (λ (n : ℕ). by_orders test n (length c.orders) 0 kept c.orders)
    (length-map c.reads_from.items (λ v. v.items))

pub none_yet : (test : List ℕ → Bool) (rows width : ℕ) (kept : List Bool)
    → by_orders test rows width 0 kept [] ≡ 0
unfolding by_orders
none_yet test rows width kept = refl

pub none_kept : {X : Type 0} (test : X → Bool) (kept : List Bool) → count_kept test kept [] ≡ 0
unfolding count_kept
none_kept test kept = refl

combination_more : (cs : List Combination) (i : ℕ) (e : Combination) → i < length cs
    → e ≡ get_or cs i e
    → candidates_in (take (i + 1) cs)
    ≡ candidates_in (take i cs) ++ map (λ t. (e, t)) (candidates_of e)
combination_more cs i e lt is =
    ap candidates_in (take_more cs i e lt ∙ ap (λ (x : Combination). take i cs ++ x ∷ []) (sym is))
    ∙ flat_map-append (λ c. map (λ t. (c, t)) (candidates_of c)) (take i cs) (e ∷ [])
    ∙ ap (λ (l : List (Combination × (List ℕ × List ℕ))). candidates_in (take i cs) ++ l)
    (append-nil (map (λ t. (e, t)) (candidates_of e)))

-- one combination more
pub one_more_counted : (test : Combination × (List ℕ × List ℕ) → Bool) (kept : List Bool)
    (cs : List Combination) (i : ℕ) (e : Combination) → i < length cs → e ≡ get_or cs i e
    → count_kept test kept (candidates_in (take (i + 1) cs))
    ≡ count_kept test kept (candidates_in (take i cs))
    + count_kept (λ t. test (e, t)) (drop (length (candidates_in (take i cs))) kept)
    (candidates_of e)
one_more_counted test kept cs i e lt is =
    ap (count_kept test kept) (combination_more cs i e lt is)
    ∙ count_kept-append test kept (candidates_in (take i cs)) (map (λ t. (e, t)) (candidates_of e))
    ∙ ap (λ (n : ℕ). count_kept test kept (candidates_in (take i cs)) + n) (count_kept-map
    (λ (t : List ℕ × List ℕ). (e, t)) test (drop (length (candidates_in (take i cs))) kept)
    (candidates_of e))

pub after_one_more : (kept rest : List Bool) (cs : List Combination) (i : ℕ) (e : Combination)
    → i < length cs → e ≡ get_or cs i e → rest ≡ drop (length (candidates_in (take i cs))) kept
    → drop (length (candidates_of e)) rest ≡ drop (length (candidates_in (take (i + 1) cs))) kept
after_one_more kept rest cs i e lt is h =
    let a : length {A = Combination × (List ℕ × List ℕ)} (map (λ t. (e, t)) (candidates_of e)) ≡ length (candidates_of e) = length-map (candidates_of e) (λ t. (e, t)) in
    let m : length (candidates_in (take (i + 1) cs)) ≡ length (candidates_in (take i cs)) + length (candidates_of e) =
    ap (λ (l : List (Combination × (List ℕ × List ℕ))). length l) (combination_more cs i e lt is)
    ∙ length-append (candidates_in (take i cs)) (map (λ t. (e, t)) (candidates_of e))
    ∙ ap (λ (n : ℕ). length (candidates_in (take i cs)) + n) a in
    ap (drop (length (candidates_of e))) h
    ∙ drop-drop (length (candidates_of e)) (length (candidates_in (take i cs))) kept
    ∙ ap (λ (n : ℕ). drop n kept) (sym m)

pub drop_up_to : (m top : ℕ) (kept : List Bool) → length kept ≤ top
    → drop (min (min m top) (length kept)) kept ≡ drop m kept
drop_up_to m top kept fits =
    ⊎_elim
    (λ lt. let e : min (min m top) (length kept) ≡ m = omega arith in ap (λ (n : ℕ). drop n kept) e)
    (λ past. drop_all (min (min m top) (length kept)) kept (omega arith)
    ∙ sym (drop_all m kept past))
    (cases_lt m (length kept))
