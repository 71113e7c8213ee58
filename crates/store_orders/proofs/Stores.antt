-- Laws of stores and of their orders.
use Rattle.std.proofs.Common.{ℕ, zero, suc, ◌≡◌, ◌<◌, ◌≤◌, ◌+◌, min, List, [], ◌∷◌, ◌++◌, filter, take, length, get_or, replicate, Bool, true, false, not, ◌&&◌, cond, refl, sym, ap, ◌∙◌, arith}
use Rattle.std.proofs.lemmas.List.{take_more, length-take, append-nil}
use Rattle.store_orders.specs.Lists.{tuples, IsFiltered, none, kept, left}
use Rattle.store_orders.specs.Events.{has_store, AreDistinct, numbers}
use Rattle.store_orders.specs.Orders.{AreOrders, are_distinct, orders_of, is_thread_store, stores_of}
use Rattle.store_orders.specs.declared.combination.Event.{Event}

-- the fact and the test
distinct_test : (xs : List ℕ) → AreDistinct xs → are_distinct xs ≡ true
distinct_test [] d = refl
distinct_test (x ∷ xs) d = rw (d.0, distinct_test xs d.1) refl

test_fails : (xs : List ℕ) (b : Bool) → are_distinct xs ≡ b → (AreDistinct xs → ⊥)
    → are_distinct xs ≡ false
test_fails xs false e fails = e
test_fails xs true e fails = absurd (fails (distinct_there xs e))
  where
    both_true : (a b : Bool) → (not a && b) ≡ true → (a ≡ false) × (b ≡ true)
    both_true true b h = absurd cc
    both_true false b h = (refl, h)

    distinct_there : (ys : List ℕ) → are_distinct ys ≡ true → AreDistinct ys
    distinct_there [] h = tt
    distinct_there (y ∷ ys) h =
        let p = both_true (has_store ys y) (are_distinct ys) h in (p.0, distinct_there ys p.1)

filtered_list : (xs ys : List (List ℕ)) → IsFiltered AreDistinct xs ys → ys ≡ filter are_distinct xs
filtered_list [] ys none = refl
filtered_list (x ∷ xs) ys (kept {ys = zs} p f) =
    rw (distinct_test x p) (ap (λ (l : List (List ℕ)). x ∷ l) (filtered_list xs zs f))
filtered_list (x ∷ xs) ys (left p f) =
    rw (test_fails x (are_distinct x) refl p) (filtered_list xs ys f)

pub orders_are : (first : ℕ) (others : List ℕ) (orders : List (List ℕ))
    → AreOrders first others orders → orders ≡ orders_of first others
orders_are first others orders h =
    filtered_list (tuples [] ((first ∷ []) ∷ replicate (length others) others)) orders h

-- one event more
numbers-append : (test : Event → Bool) (at : ℕ) (es : List Event) (e : Event)
    → numbers test at (es ++ e ∷ [])
    ≡ numbers test at es ++ cond (test e) ((at + length es) ∷ []) []
numbers-append test at [] e =
    let z : at + 0 ≡ at = omega arith in
    rw z (last (test e))
  where
    last : (b : Bool) → cond b (at ∷ []) [] ≡ cond b (at ∷ []) []
    last b = refl
numbers-append test at (x ∷ xs) e =
    let z : (at + 1) + length xs ≡ at + suc (length xs) = omega arith in
    first (test x) (numbers test (at + 1) xs) (cond (test e) ((at + suc (length xs)) ∷ []) [])
    (numbers-append test (at + 1) xs e
    ∙ ap (λ (n : ℕ). numbers test (at + 1) xs ++ cond (test e) (n ∷ []) []) z)
  where
    first : (b : Bool) {us : List ℕ} (vs ws : List ℕ) → us ≡ vs ++ ws
        → cond b (at ∷ us) us ≡ cond b (at ∷ vs) vs ++ ws
    first true vs ws h = ap (λ (l : List ℕ). at ∷ l) h
    first false vs ws h = h

pub one_event_more : (test : Event → Bool) (es : List Event) (i : ℕ) (d : Event) → i < length es
    → numbers test 0 (take (i + 1) es)
    ≡ numbers test 0 (take i es) ++ cond (test (get_or es i d)) (i ∷ []) []
one_event_more test es i d lt =
    let k : length (take i es) ≡ min i (length es) = length-take i es in
    let n : 0 + length (take i es) ≡ i = omega arith in
    ap (λ (l : List Event). numbers test 0 l) (take_more es i d lt)
    ∙ numbers-append test 0 (take i es) (get_or es i d)
    ∙ ap (λ (m : ℕ). numbers test 0 (take i es) ++ cond (test (get_or es i d)) (m ∷ []) []) n

-- an event that is a store, and one that is not
pub stored : (es : List Event) {ys zs : List ℕ} {b : Bool} (location i : ℕ) (d : Event)
    → i < length es → ys ≡ numbers (is_thread_store location) 0 (take i es)
    → b ≡ is_thread_store location (get_or es i d) → b ≡ true → zs ≡ ys ++ i ∷ []
    → zs ≡ numbers (is_thread_store location) 0 (take (i + 1) es)
stored es {ys} {zs} {b} location i d lt before test holds more =
    more
    ∙ ap (λ (l : List ℕ). l ++ i ∷ []) before
    ∙ ap (λ (c : Bool). numbers (is_thread_store location) 0 (take i es) ++ cond c (i ∷ []) [])
    (sym holds ∙ test)
    ∙ sym (one_event_more (is_thread_store location) es i d lt)

pub passed : (es : List Event) {ys : List ℕ} {b : Bool} (location i : ℕ) (d : Event) → i < length es
    → ys ≡ numbers (is_thread_store location) 0 (take i es)
    → b ≡ is_thread_store location (get_or es i d) → b ≡ false
    → ys ≡ numbers (is_thread_store location) 0 (take (i + 1) es)
passed es {ys} {b} location i d lt before test fails =
    before
    ∙ sym (append-nil (numbers (is_thread_store location) 0 (take i es)))
    ∙ ap (λ (c : Bool). numbers (is_thread_store location) 0 (take i es) ++ cond c (i ∷ []) [])
    (sym fails ∙ test)
    ∙ sym (one_event_more (is_thread_store location) es i d lt)

take-nil : (n : ℕ) → take {A = Event} n [] ≡ []
take-nil zero = refl
take-nil (suc n) = refl

take_all : (es : List Event) (n : ℕ) → take (min (length es) n) es ≡ take n es
take_all [] n = take-nil (min (length {A = Event} []) n) ∙ sym (take-nil n)
take_all (e ∷ es) zero =
    let m : min (length (e ∷ es)) 0 ≡ 0 = omega arith in ap (λ (k : ℕ). take k (e ∷ es)) m
take_all (e ∷ es) (suc n) =
    let m : min (length (e ∷ es)) (suc n) ≡ suc (min (length es) n) = omega arith in
    ap (λ (k : ℕ). take k (e ∷ es)) m ∙ ap (λ (l : List Event). e ∷ l) (take_all es n)

-- after the last event
pub stores_are : (es : List Event) {ys : List ℕ} (location n end : ℕ)
    → ys ≡ numbers (is_thread_store location) 0 (take n es) → end ≡ min (length es) 128 → n ≤ end
    → end ≤ n → ys ≡ stores_of es location
unfolding stores_of
stores_are es {ys} location n end before is le ge =
    let m : n ≡ min (length es) 128 = omega arith in
    before ∙ ap (λ (k : ℕ). numbers (is_thread_store location) 0 (take k es)) m
    ∙ ap (λ (l : List Event). numbers (is_thread_store location) 0 l) (take_all es 128)
