-- How many orders stores have.
use Rattle.std.proofs.Common.{ℕ, zero, suc, ◌≡◌, ◌<◌, ◌≤◌, ◌+◌, ◌-◌, ◌*◌, min, inl, inr, List, [], ◌∷◌, ◌++◌, map, filter, length, get_or, take, replicate, Bool, true, false, not, ◌||◌, cond, nat_eq, refl, sym, subst, ap, ◌∙◌, arith}
use Rattle.std.specs.List.{flat_map}
use Rattle.std.proofs.lemmas.Bool.{cases_lt, or_parts}
use Rattle.std.proofs.lemmas.Bool.Decides.{nat_tests}
use Rattle.std.proofs.lemmas.List.{length-append, length-map, length-take, append-nil}
use Rattle.std.proofs.Math.Nat.{one-le-mul, mul-zero, zero-mul, suc-mul, mul_comm, le-mul_of_pos_right}
use Rattle.store_orders.specs.Lists.{tuples, IsFiltered, none, kept, each_behind}
use Rattle.store_orders.specs.Events.{has_store, AreDistinct, numbers}
use Rattle.store_orders.specs.Orders.{with_new, orders_of, is_thread_store, stores_of, all_orders, arrangement_count, AreInitialStoresApart}
use Rattle.store_orders.specs.declared.combination.Event.{Event}
use Rattle.store_orders.proofs.OrderLaws.{orders_more, has_store-append}
use Rattle.store_orders.proofs.Stores.{orders_are, one_event_more, stores_are}

-- products up to a greatest number
pub product_up_to : (a b most : ℕ) → min (min a most * min b most) most ≡ min (a * b) most
product_up_to a zero most =
    let l : min a most * min zero most ≡ 0 = ap (λ (n : ℕ). min a most * n) (let z : min zero most ≡ 0 = omega arith in z) ∙ mul-zero (min a most) in
    let r : a * zero ≡ 0 = mul-zero a in
    rw (l, r) refl
product_up_to zero (suc b) most =
    let l : min zero most * min (suc b) most ≡ 0 = ap (λ (n : ℕ). n * min (suc b) most) (let z : min zero most ≡ 0 = omega arith in z) ∙ zero-mul (min (suc b) most) in
    let r : zero * suc b ≡ 0 = zero-mul (suc b) in
    rw (l, r) refl
product_up_to (suc a) (suc b) most = elim (cases_lt most (suc a)) [
  | inl over ↦
      let x : min (suc a) most ≡ most = omega (arith, over) in
      large (min (suc a) most * min (suc b) most) (suc a * suc b) (first x) (
      let p : suc a ≤ suc a * suc b = le-mul_of_pos_right (suc a) (omega arith) in
      omega (arith, p, over))
  | inr within ↦ elim (cases_lt most (suc b)) [
    | inl over ↦
        let y : min (suc b) most ≡ most = omega (arith, over) in
        large (min (suc a) most * min (suc b) most) (suc a * suc b) (second y) (
        let p : suc b ≤ suc b * suc a = le-mul_of_pos_right (suc b) (omega arith) in
        let q : suc b * suc a ≡ suc a * suc b = mul_comm (suc b) (suc a) in
        omega (arith, p, q, over))
    | inr also ↦
        let x : min (suc a) most ≡ suc a = omega (arith, within) in
        let y : min (suc b) most ≡ suc b = omega (arith, also) in
        rw (x, y) refl
  ]
]
  where
    large : (m n : ℕ) → most ≤ m → most ≤ n → min m most ≡ min n most
    large m n p q =
        let x : min m most ≡ most = omega (arith, p) in
        let y : min n most ≡ most = omega (arith, q) in x ∙ sym y

    first : min (suc a) most ≡ most → most ≤ min (suc a) most * min (suc b) most
    first x = elim (cases_lt 0 most) [
      | inl some ↦
          let p : most ≤ most * min (suc b) most = le-mul_of_pos_right most (omega (arith, some)) in
          subst (λ (n : ℕ). most ≤ n * min (suc b) most) (sym x) p
      | inr nothing ↦ omega (arith, nothing)
    ]

    second : min (suc b) most ≡ most → most ≤ min (suc a) most * min (suc b) most
    second y = elim (cases_lt 0 most) [
      | inl some ↦
          let p : most ≤ most * min (suc a) most = le-mul_of_pos_right most (omega (arith, some)) in
          let q : most * min (suc a) most ≡ min (suc a) most * most =
          mul_comm most (min (suc a) most) in
          subst (λ (n : ℕ). most ≤ min (suc a) most * n) (sym y) (omega (arith, p, q))
      | inr nothing ↦ omega (arith, nothing)
    ]

-- the stores that a prefix lacks
lacking : List ℕ → List ℕ → List ℕ
lacking others prefix = filter (λ s. not (has_store prefix s)) others

unlike : ℕ → ℕ → Bool
unlike x s = not (nat_eq x s)

lacking_more : (others prefix : List ℕ) (x : ℕ)
    → lacking others (prefix ++ x ∷ []) ≡ filter (unlike x) (lacking others prefix)
unfolding lacking unlike
lacking_more [] prefix x = refl
lacking_more (s ∷ ss) prefix x =
    step (has_store prefix s) (nat_eq x s) (has_store (prefix ++ x ∷ []) s)
    (has_store-append prefix x s) refl (lacking ss (prefix ++ x ∷ [])) (lacking ss prefix)
    (lacking_more ss prefix x)
  where
    step : (b d h : Bool) → h ≡ (b || (d || false)) → nat_eq x s ≡ d → (ls ms : List ℕ)
        → ls ≡ filter (λ y. not (nat_eq x y)) ms
        → cond (not h) (s ∷ ls) ls ≡ filter (λ y. not (nat_eq x y)) (cond (not b) (s ∷ ms) ms)
    step true d h e n ls ms same = rw e same
    step false true h e n ls ms same = rw (e, n) same
    step false false h e n ls ms same = rw (e, n) (ap (λ (l : List ℕ). s ∷ l) same)

pub eq_true : (a b : ℕ) → nat_eq a b ≡ true → a ≡ b
eq_true a b h = grind (arith, nat_tests)

eq_self : (a : ℕ) → nat_eq a a ≡ true
eq_self a = grind (arith, nat_tests)

eq_less : (a b : ℕ) → b < a → nat_eq a b ≡ false
eq_less a b h = grind (arith, nat_tests)

eq_turned : (a b : ℕ) → nat_eq a b ≡ false → nat_eq b a ≡ false
eq_turned a b h = grind (arith, nat_tests)

or_second : (a b : Bool) → a ≡ false → (a || b) ≡ true → b ≡ true
or_second true b k l = absurd cc
or_second false b k l = l

-- what has not the store stays whole
none_unlike : (zs : List ℕ) (x : ℕ) → has_store zs x ≡ false → filter (unlike x) zs ≡ zs
unfolding unlike
none_unlike [] x h = refl
none_unlike (z ∷ zs) x h =
    let p : (nat_eq z x ≡ false) × (has_store zs x ≡ false) = or_parts (nat_eq z x) (has_store zs x) h in
    let n : nat_eq x z ≡ false = eq_turned z x p.0 in
    rw n (ap (λ (l : List ℕ). z ∷ l) (none_unlike zs x p.1))

-- of stores that are there once each, one less
one_less : (zs : List ℕ) (x : ℕ) → AreDistinct zs → has_store zs x ≡ true
    → suc (length (filter (unlike x) zs)) ≡ length zs
unfolding unlike
one_less [] x d h = absurd cc
one_less (z ∷ zs) x d h = go (nat_eq z x) refl (λ there. one_less zs x d.1 there)
  where
    go : (b : Bool) → nat_eq z x ≡ b
        → (has_store zs x ≡ true → suc (length (filter (λ s. not (nat_eq x s)) zs)) ≡ length zs)
        → suc (length (filter (λ s. not (nat_eq x s)) (z ∷ zs))) ≡ suc (length zs)
    go true e rest =
        let same : z ≡ x = eq_true z x e in
        let n : nat_eq x z ≡ true = subst (λ (y : ℕ). nat_eq y z ≡ true) same (eq_self z) in
        let whole : filter (λ s. not (nat_eq x s)) zs ≡ zs = none_unlike zs x (subst (λ (y : ℕ). has_store zs y ≡ false) same d.0) in
        rw n (ap (λ (l : List ℕ). suc (length l)) whole)
    go false e rest =
        let n : nat_eq x z ≡ false = eq_turned z x e in
        let there : has_store zs x ≡ true = or_second (nat_eq z x) (has_store zs x) e h in
        rw n (ap (λ (k : ℕ). suc k) (rest there))

filter_lacks : (p : ℕ → Bool) (xs : List ℕ) (y : ℕ) → has_store xs y ≡ false
    → has_store (filter p xs) y ≡ false
filter_lacks p [] y h = refl
filter_lacks p (x ∷ xs) y h =
    let q : (nat_eq x y ≡ false) × (has_store xs y ≡ false) = or_parts (nat_eq x y) (has_store xs y) h in
    go (p x) (filter p xs) (filter_lacks p xs y q.1) q.0
  where
    go : (b : Bool) (zs : List ℕ) → has_store zs y ≡ false → nat_eq x y ≡ false
        → has_store (cond b (x ∷ zs) zs) y ≡ false
    go true zs k l = rw l k
    go false zs k l = k

distinct_filter : (p : ℕ → Bool) (xs : List ℕ) → AreDistinct xs → AreDistinct (filter p xs)
distinct_filter p [] d = tt
distinct_filter p (x ∷ xs) d =
    go (p x) (filter p xs) (filter_lacks p xs x d.0) (distinct_filter p xs d.1)
  where
    go : (b : Bool) (zs : List ℕ) → has_store zs x ≡ false → AreDistinct zs
        → AreDistinct (cond b (x ∷ zs) zs)
    go true zs k l = (k, l)
    go false zs k l = l

distinct_lacking : (others prefix : List ℕ) → AreDistinct others → AreDistinct (lacking others prefix)
unfolding lacking
distinct_lacking others prefix d = distinct_filter (λ s. not (has_store prefix s)) others d

-- each of the prefixes lacks so many
EachLacks : List ℕ → ℕ → List (List ℕ) → Type 0
EachLacks others m [] = Unit {0}
EachLacks others m (f ∷ fs) = (length (lacking others f) ≡ m) × EachLacks others m fs

each_append : (others : List ℕ) (m : ℕ) (fs gs : List (List ℕ)) → EachLacks others m fs
    → EachLacks others m gs → EachLacks others m (fs ++ gs)
unfolding EachLacks
each_append others m [] gs h k = k
each_append others m (f ∷ fs) gs h k = (h.0, each_append others m fs gs h.1 k)

each_next : (others prefix : List ℕ) (m : ℕ) → AreDistinct others
    → length (lacking others prefix) ≡ suc m → (xs : List ℕ)
    → ((x : ℕ) → has_store xs x ≡ true → has_store (lacking others prefix) x ≡ true)
    → EachLacks others m (map (λ x. prefix ++ x ∷ []) xs)
unfolding EachLacks
each_next others prefix m d long [] inside = tt
each_next others prefix m d long (x ∷ xs) inside = (
  let one : suc (length (filter (unlike x) (lacking others prefix))) ≡ length (lacking others prefix) = one_less (lacking others prefix) x (distinct_lacking others prefix d) (inside x (here (nat_eq x x) (has_store xs x) (eq_self x))) in
      let more : length (lacking others (prefix ++ x ∷ [])) ≡ length (filter (unlike x) (lacking others prefix)) = ap (λ (l : List ℕ). length l) (lacking_more others prefix x) in
      omega (arith, one, more, long),
  each_next others prefix m d long xs (λ y h. inside y (there (nat_eq x y) (has_store xs y) h)),
)
  where
    here : (a b : Bool) → a ≡ true → (a || b) ≡ true
    here true b h = refl
    here false b h = absurd cc

    there : (a b : Bool) → b ≡ true → (a || b) ≡ true
    there true b h = refl
    there false b h = h

-- one index more for each of the prefixes
each_round : (others : List ℕ) (m : ℕ) → AreDistinct others → (fs : List (List ℕ))
    → EachLacks others (suc m) fs → EachLacks others m (flat_map (with_new others) fs)
unfolding EachLacks lacking
each_round others m d [] h = tt
each_round others m d (f ∷ fs) h =
    each_append others m (with_new others f) (flat_map (with_new others) fs)
    (each_next others f m d h.0 (filter (λ s. not (has_store f s)) others) (λ x k. k))
    (each_round others m d fs h.1)

round_length : (others : List ℕ) (m : ℕ) (fs : List (List ℕ)) → EachLacks others m fs
    → length (flat_map (with_new others) fs) ≡ length fs * m
unfolding EachLacks lacking
round_length others m [] h = sym (zero-mul m)
round_length others m (f ∷ fs) h =
    let a : length (with_new others f ++ flat_map (with_new others) fs) ≡ length (with_new others f) + length (flat_map (with_new others) fs) = length-append (with_new others f) (flat_map (with_new others) fs) in
    let b : length (with_new others f) ≡ length (filter (λ s. not (has_store f s)) others) = length-map (filter (λ s. not (has_store f s)) others) (λ store. f ++ store ∷ []) in
    let c : length (flat_map (with_new others) fs) ≡ length fs * m = round_length others m fs h.1 in
    let s : suc (length fs) * m ≡ length fs * m + m = suc-mul (length fs) m in
    let l : length (filter (λ s. not (has_store f s)) others) ≡ m = h.0 in
    omega (arith, a, b, c, s, l)

-- the orders of the first positions
rounds : ℕ → List ℕ → ℕ → List (List ℕ)
rounds first others zero = (first ∷ []) ∷ []
rounds first others (suc k) = flat_map (with_new others) (rounds first others k)

rounds_filtered : (first : ℕ) (others : List ℕ) (k : ℕ)
    → IsFiltered AreDistinct (tuples [] ((first ∷ []) ∷ replicate k others)) (rounds first others k)
unfolding rounds
rounds_filtered first others zero = kept {x = first ∷ []} (refl, tt) none
rounds_filtered first others (suc k) =
    let p : k + 1 ≡ suc k = omega arith in
    subst
    (λ (n : ℕ). IsFiltered AreDistinct (tuples [] ((first ∷ []) ∷ replicate n others))
    (rounds first others (suc k))) p
    (orders_more first others k (rounds first others k)
    (flat_map (with_new others) (rounds first others k)) (rounds_filtered first others k)
    refl)

no_first : (first : ℕ) (others : List ℕ) → has_store others first ≡ false
    → lacking others (first ∷ []) ≡ others
unfolding lacking
no_first first [] h = refl
no_first first (s ∷ ss) h =
    let p : (nat_eq s first ≡ false) × (has_store ss first ≡ false) = or_parts (nat_eq s first) (has_store ss first) h in
    let n : nat_eq first s ≡ false = eq_turned s first p.0 in
    rw n (ap (λ (l : List ℕ). s ∷ l) (no_first first ss p.1))

rounds_lack : (first : ℕ) (others : List ℕ) → AreDistinct others → has_store others first ≡ false
    → (k m : ℕ) → k + m ≡ length others → EachLacks others m (rounds first others k)
unfolding rounds EachLacks
rounds_lack first others d no_one zero m e = (
  ap (λ (l : List ℕ). length l) (no_first first others no_one)
      ∙ sym (let z : zero + m ≡ m = omega arith in sym z ∙ e),
  tt,
)
rounds_lack first others d no_one (suc k) m e =
    each_round others m d (rounds first others k) (rounds_lack first others d no_one k (suc m)
    (omega (arith, e)))

rounds_length : (first : ℕ) (others : List ℕ) → AreDistinct others → has_store others first ≡ false
    → (k m : ℕ) → k + m ≡ length others → length (rounds first others k) ≡ arrangement_count (length others) k
unfolding rounds
rounds_length first others d no_one zero m e = refl
rounds_length first others d no_one (suc k) m e =
    let left : length others - k ≡ suc m = omega (arith, e) in
    round_length others (suc m) (rounds first others k) (rounds_lack first others d no_one k (suc m)
    (omega (arith, e)))
    ∙ ap (λ (n : ℕ). n * suc m) (rounds_length first others d no_one k (suc m) (omega (arith, e)))
    ∙ sym (ap (λ (n : ℕ). arrangement_count (length others) k * n) left)

-- how many orders one location has
pub orders_count : (first : ℕ) (others : List ℕ) → AreDistinct others
    → has_store others first ≡ false
    → length (orders_of first others) ≡ arrangement_count (length others) (length others)
orders_count first others d no_one =
    ap (λ (l : List (List ℕ)). length l) (sym (orders_are first others
    (rounds first others (length others))
    (rounds_filtered first others (length others))))
    ∙ rounds_length first others d no_one (length others) 0 (omega arith)

-- the numbers of events are there once each
pub numbers_above : (test : Event → Bool) (at : ℕ) (es : List Event) (y : ℕ) → y < at
    → has_store (numbers test at es) y ≡ false
numbers_above test at [] y lt = refl
numbers_above test at (e ∷ es) y lt =
    go (test e) (numbers test (at + 1) es) (numbers_above test (at + 1) es y (omega (arith, lt)))
  where
    go : (b : Bool) (ns : List ℕ) → has_store ns y ≡ false
        → has_store (cond b (at ∷ ns) ns) y ≡ false
    go true ns h = rw (eq_less at y lt) h
    go false ns h = h

numbers_distinct : (test : Event → Bool) (at : ℕ) (es : List Event)
    → AreDistinct (numbers test at es)
numbers_distinct test at [] = tt
numbers_distinct test at (e ∷ es) =
    go (test e) (numbers test (at + 1) es) (numbers_above test (at + 1) es at (omega arith))
    (numbers_distinct test (at + 1) es)
  where
    go : (b : Bool) (ns : List ℕ) → has_store ns at ≡ false → AreDistinct ns
        → AreDistinct (cond b (at ∷ ns) ns)
    go true ns h d = (h, d)
    go false ns h d = d

stores_distinct : (es : List Event) (location : ℕ) → AreDistinct (stores_of es location)
unfolding stores_of
stores_distinct es location = numbers_distinct (is_thread_store location) 0 (take 128 es)

joined_length : (os fs : List (List ℕ))
    → length (flat_map (each_behind os) fs) ≡ length fs * length os
joined_length os [] = sym (zero-mul (length os))
joined_length os (f ∷ fs) =
    let a : length (each_behind os f ++ flat_map (each_behind os) fs) ≡ length (each_behind os f) + length (flat_map (each_behind os) fs) = length-append (each_behind os f) (flat_map (each_behind os) fs) in
    let b : length (each_behind os f) ≡ length os = length-map os (λ other. f ++ other) in
    let c : length (flat_map (each_behind os) fs) ≡ length fs * length os = joined_length os fs in
    let s : suc (length fs) * length os ≡ length fs * length os + length os = suc-mul (length fs) (length os) in
    omega (arith, a, b, c, s)

-- one location more
pub one_location_counted : (es : List Event) (n most count stores rows next : ℕ)
    → (AreInitialStoresApart es n → count ≡ min (length (all_orders es n)) most)
    → stores ≡ length (stores_of es n) → rows ≡ min (arrangement_count stores stores) most
    → next ≡ min (count * rows) most → AreInitialStoresApart es (n + 1)
    → next ≡ min (length (all_orders es (n + 1))) most
one_location_counted es n most count stores rows next before s r e apart =
    let k : suc n ≡ n + 1 = omega arith in
    let own : length (orders_of n (stores_of es n)) ≡ arrangement_count (length (stores_of es n)) (length (stores_of es n)) = orders_count n (stores_of es n) (stores_distinct es n) (apart n (omega arith)) in
    let many : length (all_orders es (suc n)) ≡ length (all_orders es n) * length (orders_of n (stores_of es n)) = joined_length (orders_of n (stores_of es n)) (all_orders es n) in
    e
    ∙ ap (λ (m : ℕ). min (m * rows) most) (before (λ l lt. apart l (omega (arith, lt))))
    ∙ ap (λ (m : ℕ). min (min (length (all_orders es n)) most * m) most)
    (r ∙ ap (λ (m : ℕ). min (arrangement_count m m) most) s ∙ ap (λ (m : ℕ). min m most) (sym own))
    ∙ product_up_to (length (all_orders es n)) (length (orders_of n (stores_of es n))) most
    ∙ ap (λ (m : ℕ). min m most) (sym many)
    ∙ ap (λ (m : ℕ). min (length (all_orders es m)) most) k

pub one_position_counted : (count positions most rows next : ℕ)
    → rows ≡ min (arrangement_count count positions) most → count - positions ≤ most
    → next ≡ min (rows * (count - positions)) most → next ≡ min (arrangement_count count (positions + 1)) most
one_position_counted count positions most rows next before few e =
    let k : suc positions ≡ positions + 1 = omega arith in
    let f : count - positions ≡ min (count - positions) most = omega (arith, few) in
    e
    ∙ ap (λ (m : ℕ). min (m * (count - positions)) most) before
    ∙ ap (λ (m : ℕ). min (min (arrangement_count count positions) most * m) most) f
    ∙ product_up_to (arrangement_count count positions) (count - positions) most
    ∙ ap (λ (m : ℕ). min (arrangement_count count m) most) k

-- one event more among those that may be stores of the location
numbers_after : (test : Event → Bool) (es : List Event) (n : ℕ) (d : Event) (b : Bool)
    → n < length es → b ≡ test (get_or es n d)
    → numbers test 0 (take (n + 1) es) ≡ numbers test 0 (take n es) ++ cond b (n ∷ []) []
numbers_after test es n d b lt is =
    one_event_more test es n d lt
    ∙ ap (λ (c : Bool). numbers test 0 (take n es) ++ cond c (n ∷ []) []) (sym is)

pub one_store_counted : (test : Event → Bool) (es : List Event) (n count : ℕ) (d : Event) (b : Bool)
    → n < length es → b ≡ test (get_or es n d) → b ≡ true
    → count ≡ length (numbers test 0 (take n es))
    → count + 1 ≡ length (numbers test 0 (take (n + 1) es))
one_store_counted test es n count d b lt is holds before =
    let e : length (numbers test 0 (take (n + 1) es)) ≡ length (numbers test 0 (take n es) ++ n ∷ []) = ap (λ (l : List ℕ). length l) (numbers_after test es n d b lt is ∙ ap (λ (c : Bool). numbers test 0 (take n es) ++ cond c (n ∷ []) []) holds) in
    let a : length (numbers test 0 (take n es) ++ n ∷ []) ≡ length (numbers test 0 (take n es)) + 1 = length-append (numbers test 0 (take n es)) (n ∷ []) in
    omega (arith, e, a, before)

pub no_store_counted : (test : Event → Bool) (es : List Event) (n count : ℕ) (d : Event) (b : Bool)
    → n < length es → b ≡ test (get_or es n d) → b ≡ false
    → count ≡ length (numbers test 0 (take n es))
    → count ≡ length (numbers test 0 (take (n + 1) es))
no_store_counted test es n count d b lt is fails before =
    before
    ∙ ap (λ (l : List ℕ). length l) (sym (numbers_after test es n d b lt is
    ∙ ap (λ (c : Bool). numbers test 0 (take n es) ++ cond c (n ∷ []) []) fails
    ∙ append-nil (numbers test 0 (take n es))))

pub few_numbers : (test : Event → Bool) (at : ℕ) (es : List Event)
    → length (numbers test at es) ≤ length es
few_numbers test at [] = omega arith
few_numbers test at (e ∷ es) = go (test e) (numbers test (at + 1) es) (few_numbers test (at + 1) es)
  where
    go : (b : Bool) (ns : List ℕ) → length ns ≤ length es
        → length (cond b (at ∷ ns) ns) ≤ suc (length es)
    go true ns h = omega (arith, h)
    go false ns h = omega (arith, h)

pub counted_few : (test : Event → Bool) (es : List Event) (n count : ℕ) → n ≤ 128
    → count ≡ length (numbers test 0 (take n es)) → count ≤ 128
counted_few test es n count few is =
    let a : length (numbers test 0 (take n es)) ≤ length (take n es) = few_numbers test 0 (take n es) in
    let b : length (take n es) ≡ min n (length es) = length-take n es in
    omega (arith, a, b, few, is)

pub all_counted : (es : List Event) (location n end count : ℕ)
    → count ≡ length (numbers (is_thread_store location) 0 (take n es)) → end ≡ min (length es) 128
    → n ≤ end → end ≤ n → count ≡ length (stores_of es location)
all_counted es location n end count is e le ge =
    is
    ∙ ap (λ (l : List ℕ). length l) (stores_are es
    {ys = numbers (is_thread_store location) 0 (take n es)} location n end refl e le ge)

-- there is some order
rows_positive : (count positions : ℕ) → positions ≤ count → 1 ≤ arrangement_count count positions
rows_positive count zero le = omega arith
rows_positive count (suc positions) le =
    one-le-mul (rows_positive count positions (omega (arith, le))) (omega (arith, le))

pub some_order : (es : List Event) (n : ℕ) → AreInitialStoresApart es n → 1 ≤ length (all_orders es n)
some_order es zero apart = omega arith
some_order es (suc n) apart =
    let own : length (orders_of n (stores_of es n)) ≡ arrangement_count (length (stores_of es n)) (length (stores_of es n)) = orders_count n (stores_of es n) (stores_distinct es n) (apart n (omega arith)) in
    let many : length (all_orders es (suc n)) ≡ length (all_orders es n) * length (orders_of n (stores_of es n)) = joined_length (orders_of n (stores_of es n)) (all_orders es n) in
    let p : 1 ≤ arrangement_count (length (stores_of es n)) (length (stores_of es n)) = rows_positive (length (stores_of es n)) (length (stores_of es n)) (omega arith) in
    let q : 1 ≤ length (all_orders es n) * length (orders_of n (stores_of es n)) = one-le-mul (some_order es n (λ l lt. apart l (omega (arith, lt)))) (omega (arith, own, p)) in
    omega (arith, many, q)
