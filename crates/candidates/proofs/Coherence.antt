-- Coherence of the executions of a choice of runs: the orders of the stores of a location.
use Rattle.std.proofs.Common.{ℕ, zero, suc, ◌≡◌, ◌&&◌, not, Bool, true, false, cond, nat_eq, List, [], ◌∷◌, ◌++◌, map, filter, length, replicate, Some, slice_get, refl, ap, sym, subst, ◌∙◌, arith, eq-eqb, Contains}
use Rattle.std.specs.List.{flat_map, AllZip, All}
use Rattle.std.proofs.lemmas.List.Elements.{All-cons, All-nil, Contains-append_left, Contains-append_right, Contains-push}
use Rattle.std.proofs.lemmas.Bool.{or_parts}
use Rattle.std.proofs.lemmas.Option.{same_Some}
use Rattle.candidates.proofs.Products.{FilteredEach, filter_of_products, filter_twice, filter_as}
use Rattle.candidates.proofs.ReadsFrom.{tuples_are}
use Rattle.candidates.specs.Executions.{IsStoreOrder, product, order_choices, stores_at}
use Rattle.store_orders.specs.Lists.{tuples, IsFiltered, none, kept, left}
use Rattle.store_orders.specs.Events.{has_store, AreDistinct}
use Rattle.store_orders.specs.Orders.{are_distinct, orders_of}
use Rattle.store_orders.specs.declared.combination.Event.{Event}

true_false : true ≡ false → ⊥
true_false h = cc

-- the initial store is the first, and no other
abbrev Stands : ℕ → Bool → ℕ → Type 0
Stands first true x = x ≡ first
Stands first false x = x ≡ first → ⊥

not_first : (x first : ℕ) → nat_eq x first ≡ false → x ≡ first → ⊥
not_first x first h e = true_false (sym (eq-eqb x first e) ∙ h)

one_first : (first : ℕ) (others : List ℕ) → has_store others first ≡ false
    → IsFiltered (λ x. x ≡ first) others []
one_first first [] h = none
one_first first (x ∷ others) h =
    let p : (nat_eq x first ≡ false) × (has_store others first ≡ false) = or_parts (nat_eq x first) (has_store others first) h in
    left (not_first x first p.0) (one_first first others p.1)

none_first : (first : ℕ) (others : List ℕ) → has_store others first ≡ false
    → IsFiltered (λ x. x ≡ first → ⊥) others others
none_first first [] h = none
none_first first (x ∷ others) h =
    let p : (nat_eq x first ≡ false) × (has_store others first ≡ false) = or_parts (nat_eq x first) (has_store others first) h in
    kept (not_first x first p.0) (none_first first others p.1)

stands_later : (first : ℕ) (others : List ℕ) → has_store others first ≡ false → (n : ℕ)
    → FilteredEach (Stands first) (replicate n false) (replicate n (first ∷ others))
    (replicate n others)
stands_later first others h zero = tt
stands_later first others h (suc n) =
    (left (λ differs. differs refl) (none_first first others h), stands_later first others h n)

stands : (first : ℕ) (others : List ℕ) → has_store others first ≡ false → (n : ℕ)
    → FilteredEach (Stands first) (true ∷ replicate n false)
    ((first ∷ others) ∷ replicate n (first ∷ others)) ((first ∷ []) ∷ replicate n others)
stands first others h n = (kept refl (one_first first others h), stands_later first others h n)

-- a filter by the test that no store stands twice is one by the fact
test_true : (a b : Bool) → (not a && b) ≡ true → (a ≡ false) × (b ≡ true)
test_true true b h = absurd cc
test_true false b h = (refl, h)

distinct_there : (ys : List ℕ) → are_distinct ys ≡ true → AreDistinct ys
distinct_there [] h = tt
distinct_there (y ∷ ys) h =
    let p : (has_store ys y ≡ false) × (are_distinct ys ≡ true) =
    test_true (has_store ys y) (are_distinct ys) h in
    (p.0, distinct_there ys p.1)

distinct_tested : (ys : List ℕ) → AreDistinct ys → are_distinct ys ≡ true
distinct_tested [] h = refl
distinct_tested (y ∷ ys) h =
    ap (λ (b : Bool). not b && are_distinct ys) h.0 ∙ distinct_tested ys h.1

tested : (xs : List (List ℕ)) → IsFiltered AreDistinct xs (filter are_distinct xs)
tested [] = none
tested (x ∷ xs) = go (are_distinct x) refl (filter are_distinct xs) (tested xs)
  where
    go : (b : Bool) → are_distinct x ≡ b → (ys : List (List ℕ)) → IsFiltered AreDistinct xs ys
        → IsFiltered AreDistinct (x ∷ xs) (cond b (x ∷ ys) ys)
    go true e ys h = kept (distinct_there x e) h
    go false e ys h = left (λ d. true_false (sym (distinct_tested x d) ∙ e)) h

-- a filter by a fact that is equivalent for what is there
pub data Each {X : Type 0} (M : X → Type 0) : List X → Type 0 where
  end : Each M []
  and : {x : X} {xs : List X} → M x → Each M xs → Each M (x ∷ xs)

each_append : {X : Type 0} (M : X → Type 0) (xs ys : List X) → Each M xs → Each M ys
    → Each M (xs ++ ys)
each_append M [] ys end k = k
each_append M (x ∷ xs) ys (and m h) k = and m (each_append M xs ys h k)

pub filter_as_there : {X : Type 0} (M P Q : X → Type 0) → ((x : X) → M x → P x → Q x)
    → ((x : X) → M x → Q x → P x) → (xs ys : List X) → Each M xs → IsFiltered P xs ys
    → IsFiltered Q xs ys
filter_as_there M P Q to back [] ys end none = none
filter_as_there M P Q to back (x ∷ xs) ys (and m h) (kept {ys = us} p f) =
    kept (to x m p) (filter_as_there M P Q to back xs us h f)
filter_as_there M P Q to back (x ∷ xs) ys (and m h) (left fails f) =
    left (λ q. fails (back x m q)) (filter_as_there M P Q to back xs ys h f)

-- lists drawn from stores
abbrev Drawn : List ℕ → ℕ → List ℕ → Type 0
Drawn ss n order = All (Contains ss) order × (length order ≡ n)

drawn_with : (ss : List ℕ) (n x : ℕ) → Contains ss x → (rest : List (List ℕ))
    → Each (Drawn ss n) rest → Each (Drawn ss (suc n)) (map (λ (r : List ℕ). x ∷ r) rest)
drawn_with ss n x there [] end = end
drawn_with ss n x there (r ∷ rest) (and m h) =
    and (All-cons (Contains ss) x r there m.0, ap (λ (k : ℕ). suc k) m.1)
    (drawn_with ss n x there rest h)

drawn_rows : (ss : List ℕ) (n : ℕ) (rest : List (List ℕ)) → Each (Drawn ss n) rest → (xs : List ℕ)
    → ((x : ℕ) → Contains xs x → Contains ss x)
    → Each (Drawn ss (suc n)) (flat_map (λ (x : ℕ). map (λ (r : List ℕ). x ∷ r) rest) xs)
drawn_rows ss n rest h [] within = end
drawn_rows ss n rest h (x ∷ xs) within =
    each_append (Drawn ss (suc n)) (map (λ (r : List ℕ). x ∷ r) rest)
    (flat_map (λ (x : ℕ). map (λ (r : List ℕ). x ∷ r) rest) xs)
    (drawn_with ss n x (within x (Contains-append_left (x ∷ []) xs x (Contains-push [] x))) rest h)
    (drawn_rows ss n rest h xs (λ y c. within y (Contains-append_right (x ∷ []) xs y c)))

drawn : (ss : List ℕ) (n : ℕ) → Each (Drawn ss n) (product (replicate n ss))
drawn ss zero = and (All-nil (Contains ss), refl) end
drawn ss (suc n) = drawn_rows ss n (product (replicate n ss)) (drawn ss n) ss (λ x c. c)

-- an order of these stores
pub record Orders (first : ℕ) (ss : List ℕ) (order : List ℕ) : Type 0 where
  pub initial : slice_get order 0 ≡ Some first
  pub stores : All (Contains ss) order
  pub each : length order ≡ length ss
  pub once : AreDistinct order

others_stand : (first n : ℕ) (xs : List ℕ) → length xs ≡ n → has_store xs first ≡ false
    → AllZip (Stands first) (replicate n false) xs
others_stand first zero [] e h = tt
others_stand first zero (x ∷ xs) e h = absurd (omega (arith, e))
others_stand first (suc n) [] e h = absurd (omega (arith, e))
others_stand first (suc n) (x ∷ xs) e h =
    let p : (nat_eq x first ≡ false) × (has_store xs first ≡ false) = or_parts (nat_eq x first) (has_store xs first) h in
    (not_first x first p.0, others_stand first n xs (omega (arith, e)) p.1)

-- the orders that are found are just those
pub orders_found : (first : ℕ) (others : List ℕ) → has_store others first ≡ false
    → IsFiltered (Orders first (first ∷ others))
    (product (replicate (length (first ∷ others)) (first ∷ others))) (orders_of first others)
orders_found first others apart =
    filter_as_there (Drawn (first ∷ others) (suc (length others)))
    (λ o. AllZip (Stands first) (true ∷ replicate (length others) false) o × AreDistinct o)
    (Orders first (first ∷ others)) to back
    (product (replicate (length (first ∷ others)) (first ∷ others))) (orders_of first others)
    (drawn (first ∷ others) (suc (length others)))
    (filter_twice (AllZip (Stands first) (true ∷ replicate (length others) false)) AreDistinct
    (product (replicate (length (first ∷ others)) (first ∷ others)))
    (product ((first ∷ []) ∷ replicate (length others) others)) (orders_of first others)
    (filter_of_products (Stands first) (true ∷ replicate (length others) false)
    (replicate (length (first ∷ others)) (first ∷ others))
    ((first ∷ []) ∷ replicate (length others) others)
    (stands first others apart (length others)))
    (subst
    (λ (l : List (List ℕ)). IsFiltered AreDistinct l (filter are_distinct
    (tuples [] ((first ∷ []) ∷ replicate (length others) others))))
    (tuples_are ((first ∷ []) ∷ replicate (length others) others))
    (tested (tuples [] ((first ∷ []) ∷ replicate (length others) others)))))
  where
    to : (o : List ℕ) → Drawn (first ∷ others) (suc (length others)) o
        → AllZip (Stands first) (true ∷ replicate (length others) false) o × AreDistinct o
        → Orders first (first ∷ others) o
    to [] m h = absurd h.0
    to (x ∷ xs) m h =
        record { initial = ap (λ (n : ℕ). Some n) h.0.0; stores = m.0; each = m.1; once = h.1 }

    back : (o : List ℕ) → Drawn (first ∷ others) (suc (length others)) o
        → Orders first (first ∷ others) o
        → AllZip (Stands first) (true ∷ replicate (length others) false) o × AreDistinct o
    back [] m h = let l : 0 ≡ suc (length others) = m.1 in absurd (omega (arith, l))
    back (x ∷ xs) m h =
        let e : x ≡ first = same_Some _ _ h.initial in
        let l : suc (length xs) ≡ suc (length others) = m.1 in (
          (
            e,
            others_stand first (length others) xs (omega (arith, l))
                (subst (λ (n : ℕ). has_store xs n ≡ false) e h.once.0),
          ),
          h.once,
        )

-- in the words of executions
order_of : (es : List Event) (location : ℕ) (others order : List ℕ)
    → stores_at es location ≡ location ∷ others → Orders location (location ∷ others) order
    → IsStoreOrder es location order
order_of es location others order e h = record {
  initial = h.initial;
  stores = subst (λ (ss : List ℕ). All (Contains ss) order) (sym e) h.stores;
  each = h.each ∙ ap (λ (ss : List ℕ). length ss) (sym e);
  once = h.once;
}

order_is : (es : List Event) (location : ℕ) (others order : List ℕ)
    → stores_at es location ≡ location ∷ others → IsStoreOrder es location order
    → Orders location (location ∷ others) order
order_is es location others order e h = record {
  initial = h.initial;
  stores = subst (λ (ss : List ℕ). All (Contains ss) order) e h.stores;
  each = h.each ∙ ap (λ (ss : List ℕ). length ss) e;
  once = h.once;
}

pub location_orders : (es : List Event) (location : ℕ) (others : List ℕ)
    → stores_at es location ≡ location ∷ others → has_store others location ≡ false
    → IsFiltered (IsStoreOrder es location) (order_choices es location) (orders_of location others)
location_orders es location others e apart =
    filter_as (Orders location (location ∷ others)) (IsStoreOrder es location)
    (λ o. (order_of es location others o e, order_is es location others o e)) (order_choices es location)
    (orders_of location others)
    (subst
    (λ (ss : List ℕ). IsFiltered (Orders location (location ∷ others))
    (product (replicate (length ss) ss)) (orders_of location others))
    (sym e)
    (orders_found location others apart))
