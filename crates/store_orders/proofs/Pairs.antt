-- Laws of the candidates of a combination.
use Rattle.std.proofs.Common.{inl, inr, ℕ, suc, ◌≡◌, ◌<◌, ◌≤◌, ◌+◌, ◌*◌, ◌/◌, ◌%◌, ◌↔◌, List, [], ◌∷◌, ◌++◌, map, take, length, get_or, sym, ap, subst, ◌∙◌, arith, Vec}
use Rattle.std.specs.List.{flat_map}
use Rattle.std.proofs.lemmas.Bool.{cases_lt}
use Rattle.std.specs.declared.alloc.Global.{Global}
use Rattle.std.proofs.Math.Nat.{suc-mul, zero-mul, mul-zero, mul_comm, mod-lt, div-add-mod, div-lt_iff_lt-mul}
use Rattle.std.proofs.lemmas.List.{length-append, length-map, get_or-map, length-take-le}
use Rattle.std.proofs.lemmas.List.Concat.{get_or-flat_map}
use Rattle.store_orders.specs.Lists.{lists_of}
use Rattle.store_orders.specs.Combinations.{pairs, candidates_of}
use Rattle.store_orders.specs.declared.combination.Combination.{Combination}

pub length-pairs : {X Y : Type 0} (xs : List X) (ys : List Y)
    → length (pairs xs ys) ≡ length xs * length ys
length-pairs [] ys = sym (zero-mul (length ys))
length-pairs {X} {Y} (x ∷ xs) ys =
    let f : Y → X × Y = λ y. (x, y) in
    let a : length (map f ys ++ pairs xs ys) ≡ length (map f ys) + length (pairs xs ys) = length-append (map f ys) (pairs xs ys) in
    let m : length (map f ys) ≡ length ys = length-map ys f in
    let r : length (pairs xs ys) ≡ length xs * length ys = length-pairs xs ys in
    let s : suc (length xs) * length ys ≡ length xs * length ys + length ys = suc-mul (length xs) (length ys) in
    omega arith

-- before the pairs of the i-th come i times as many as the second list has
pub length-before : {X Y : Type 0} (xs : List X) (ys : List Y) (i : ℕ) → i ≤ length xs
    → length (pairs (take i xs) ys) ≡ i * length ys
length-before xs ys i le =
    length-pairs (take i xs) ys ∙ ap (λ (n : ℕ). n * length ys) (length-take-le i xs le)

abbrev pub beside : {X Y : Type 0} → X → Y → X × Y
beside x y = (x, y)

get_or-pairs : {X Y : Type 0} (xs : List X) (ys : List Y) (p : ℕ) (x : X) (y : Y) (d : X × Y)
    → 0 < length ys → p / length ys < length xs
    → get_or (pairs xs ys) p d ≡ (get_or xs (p / length ys) x, get_or ys (p % length ys) y)
get_or-pairs {X} {Y} xs ys p x y d some lt =
    ap (λ (k : ℕ). get_or (pairs xs ys) k d) index
    ∙ get_or-flat_map (λ (u : X). map (beside {Y = Y} u) ys) xs (p / length ys) (p % length ys) x d
    lt inside
    ∙ get_or-map (beside {Y = Y} (get_or xs (p / length ys) x)) ys (p % length ys) y d
    (mod-lt p some)
  where
    inside : p % length ys < length (map (beside {Y = Y} (get_or xs (p / length ys) x)) ys)
    inside =
        let m : length (map (beside {Y = Y} (get_or xs (p / length ys) x)) ys) ≡ length ys =
        length-map ys (beside {Y = Y} (get_or xs (p / length ys) x)) in
        let l : p % length ys < length ys = mod-lt p some in omega arith

    index : p
        ≡ length (flat_map (λ (u : X). map (beside {Y = Y} u) ys) (take (p / length ys) xs))
        + p % length ys
    index =
        let b : length (pairs (take (p / length ys) xs) ys) ≡ (p / length ys) * length ys = length-before xs ys (p / length ys) (omega (arith, lt)) in
        let q : length ys * (p / length ys) + p % length ys ≡ p = div-add-mod p (length ys) in
        let c : length ys * (p / length ys) ≡ (p / length ys) * length ys = mul_comm (length ys) (p / length ys) in
        omega (arith, b, q, c)

-- how many candidates a combination has
pub length-candidates : (c : Combination)
    → length (candidates_of c) ≡ length c.reads_from.items * length c.orders
unfolding candidates_of
length-candidates c =
    let s : length (lists_of c.reads_from.items) ≡ length c.reads_from.items = length-map c.reads_from.items (λ v. v.items) in
    length-pairs (lists_of c.reads_from.items) c.orders ∙ ap (λ (n : ℕ). n * length c.orders) s

pub has_none : (c : Combination) (p : ℕ) → length c.orders ≡ 0 → p < length (candidates_of c) → ⊥
has_none c p none lt =
    let e : length (candidates_of c) ≡ length c.reads_from.items * length c.orders = length-candidates c in
    let z : length c.reads_from.items * 0 ≡ 0 = mul-zero (length c.reads_from.items) in
    let f : length c.reads_from.items * length c.orders ≡ length c.reads_from.items * 0 = ap (λ (n : ℕ). length c.reads_from.items * n) none in
    omega arith

pub has_index : (c : Combination) (p : ℕ) → 0 < length c.orders
    → (p / length c.orders < length c.reads_from.items) ↔ (p < length (candidates_of c))
has_index c p some =
    subst (λ (n : ℕ). (p / length c.orders < length c.reads_from.items) ↔ (p < n))
    (sym (length-candidates c)) (div-lt_iff_lt-mul some)

-- the candidate at an index
pub candidate_at : (c : Combination) (p : ℕ) (d : List ℕ × List ℕ) (v : Vec ℕ Global)
    → 0 < length c.orders → p / length c.orders < length c.reads_from.items
    → get_or (candidates_of c) p d
    ≡ (
      (get_or c.reads_from.items (p / length c.orders) v).items,
      get_or c.orders (p % length c.orders) [],
    )
unfolding candidates_of
candidate_at c p d v some lt =
    let s : length (lists_of c.reads_from.items) ≡ length c.reads_from.items = length-map c.reads_from.items (λ v. v.items) in
    get_or-pairs (lists_of c.reads_from.items) c.orders p v.items [] d some
    (subst (λ (n : ℕ). p / length c.orders < n) (sym s) lt)
    ∙ ap (λ (l : List ℕ). (l, get_or c.orders (p % length c.orders) [])) (get_or-map
    (λ (u : Vec ℕ Global). u.items) c.reads_from.items (p / length c.orders) v v.items lt)

-- where there is a candidate there are orders
pub has_orders : (c : Combination) (p : ℕ) → p < length (candidates_of c) → 0 < length c.orders
has_orders c p lt = elim (cases_lt 0 (length c.orders)) [
  | inl some ↦ some
  | inr few ↦ absurd (has_none c p (omega (arith, few)) lt)
]
