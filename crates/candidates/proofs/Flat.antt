-- The orders of the stores of all locations, one after another, are those that are found.
use Rattle.std.proofs.Common.{ℕ, zero, suc, ◌≡◌, ◌≤◌, ◌+◌, List, [], ◌∷◌, ◌++◌, map, length, refl, ap, sym, ◌∙◌, arith, append_assoc, append-nil}
use Rattle.std.specs.List.{flat_map}
use Rattle.std.proofs.lemmas.List.{map-append, take_all}
use Rattle.std.proofs.lemmas.List.Concat.{flat_map-append}
use Rattle.thread_runs.specs.declared.value.Value.{Value}
use Rattle.candidates.proofs.Executing.{others_at, orders_at}
use Rattle.candidates.specs.Executions.{product, locations_from}
use Rattle.store_orders.specs.Lists.{each_behind}
use Rattle.store_orders.specs.Events.{numbers}
use Rattle.store_orders.specs.Orders.{orders_of, is_thread_store, stores_of, all_orders}
use Rattle.store_orders.specs.declared.combination.Event.{Event}

-- the orders of locations, one after another
abbrev pub flat : List (List ℕ) → List ℕ
flat orders = flat_map (λ order. order) orders

-- with one location more
both_fronts : (x f : List ℕ) (ys : List (List ℕ))
    → map (λ (o : List ℕ). x ++ o) (each_behind ys f) ≡ each_behind ys (x ++ f)
both_fronts x f [] = refl
both_fronts x f (y ∷ ys) =
    ap (λ (l : List ℕ). l ∷ map (λ (o : List ℕ). x ++ o) (each_behind ys f))
    (sym (append_assoc x f y))
    ∙ ap (λ (l : List (List ℕ)). ((x ++ f) ++ y) ∷ l) (both_fronts x f ys)

front_of_all : (x : List ℕ) (ys fs : List (List ℕ))
    → map (λ (o : List ℕ). x ++ o) (flat_map (each_behind ys) fs)
    ≡ flat_map (each_behind ys) (map (λ (o : List ℕ). x ++ o) fs)
front_of_all x ys [] = refl
front_of_all x ys (f ∷ fs) =
    map-append (λ (o : List ℕ). x ++ o) (each_behind ys f) (flat_map (each_behind ys) fs)
    ∙ ap (λ (l : List (List ℕ)). l ++ map (λ (o : List ℕ). x ++ o) (flat_map (each_behind ys) fs))
    (both_fronts x f ys)
    ∙ ap (λ (l : List (List ℕ)). each_behind ys (x ++ f) ++ l) (front_of_all x ys fs)

flat_rows : (x : List ℕ) (rs : List (List (List ℕ)))
    → map flat (map (λ (r : List (List ℕ)). x ∷ r) rs) ≡ map (λ (o : List ℕ). x ++ o) (map flat rs)
flat_rows x [] = refl
flat_rows x (r ∷ rs) = ap (λ (l : List (List ℕ)). (x ++ flat r) ∷ l) (flat_rows x rs)

last_alone : (ys : List (List ℕ))
    → map flat (flat_map (λ (y : List ℕ). map (λ (r : List (List ℕ)). y ∷ r) ([] ∷ [])) ys)
    ≡ each_behind ys []
last_alone [] = refl
last_alone (y ∷ ys) =
    ap
    (λ (l : List ℕ). l
    ∷ map flat (flat_map (λ (y : List ℕ). map (λ (r : List (List ℕ)). y ∷ r) ([] ∷ [])) ys))
    (append-nil y) ∙ ap (λ (l : List (List ℕ)). y ∷ l) (last_alone ys)

flat_product : (xs : List (List ℕ)) (rss : List (List (List ℕ)))
    → map flat (flat_map (λ (x : List ℕ). map (λ (r : List (List ℕ)). x ∷ r) rss) xs)
    ≡ flat_map (λ (x : List ℕ). map (λ (o : List ℕ). x ++ o) (map flat rss)) xs
flat_product [] rss = refl
flat_product (x ∷ xs) rss =
    map-append flat (map (λ (r : List (List ℕ)). x ∷ r) rss) (flat_map
    (λ (x : List ℕ). map (λ (r : List (List ℕ)). x ∷ r) rss) xs)
    ∙ ap
    (λ (l : List (List ℕ)). l
    ++ map flat (flat_map (λ (x : List ℕ). map (λ (r : List (List ℕ)). x ∷ r) rss) xs))
    (flat_rows x rss)
    ∙ ap (λ (l : List (List ℕ)). map (λ (o : List ℕ). x ++ o) (map flat rss) ++ l)
    (flat_product xs rss)

one_by_one : (ys fs xs : List (List ℕ))
    → flat_map (λ (x : List ℕ). map (λ (o : List ℕ). x ++ o) (flat_map (each_behind ys) fs)) xs
    ≡ flat_map (each_behind ys) (flat_map (λ (x : List ℕ). map (λ (o : List ℕ). x ++ o) fs) xs)
one_by_one ys fs [] = refl
one_by_one ys fs (x ∷ xs) =
    ap
    (λ (l : List (List ℕ)). l
    ++ flat_map
    (λ (x : List ℕ). map (λ (o : List ℕ). x ++ o) (flat_map (each_behind ys) fs)) xs)
    (front_of_all x ys fs)
    ∙ ap (λ (l : List (List ℕ)). flat_map (each_behind ys) (map (λ (o : List ℕ). x ++ o) fs) ++ l)
    (one_by_one ys fs xs)
    ∙ sym (flat_map-append (each_behind ys) (map (λ (o : List ℕ). x ++ o) fs)
    (flat_map (λ (x : List ℕ). map (λ (o : List ℕ). x ++ o) fs) xs))

one_location_more : (xss : List (List (List ℕ))) (ys : List (List ℕ))
    → map flat (product (xss ++ ys ∷ [])) ≡ flat_map (each_behind ys) (map flat (product xss))
one_location_more [] ys = last_alone ys ∙ sym (append-nil (each_behind ys []))
one_location_more (xs ∷ xss) ys =
    flat_product xs (product (xss ++ ys ∷ []))
    ∙ ap (λ (l : List (List ℕ)). flat_map (λ (x : List ℕ). map (λ (o : List ℕ). x ++ o) l) xs)
    (one_location_more xss ys)
    ∙ one_by_one ys (map flat (product xss)) xs
    ∙ ap (λ (l : List (List ℕ)). flat_map (each_behind ys) l) (sym (flat_product xs (product xss)))

-- the first locations
abbrev first_locations : ℕ → List ℕ
first_locations zero = []
first_locations (suc n) = first_locations n ++ n ∷ []

locations_are : (at : ℕ) (vs : List Value)
    → first_locations at ++ locations_from at vs ≡ first_locations (at + length vs)
locations_are at [] =
    let z : at ≡ at + 0 = omega arith in
    append-nil (first_locations at) ∙ ap (λ (n : ℕ). first_locations n) z
locations_are at (v ∷ vs) =
    let s : suc at ≡ at + 1 = omega arith in
    let e : at + 1 + length vs ≡ at + suc (length vs) = omega arith in
    sym (append_assoc (first_locations at) (at ∷ []) (locations_from (at + 1) vs))
    ∙ ap (λ (n : ℕ). first_locations n ++ locations_from (at + 1) vs) s
    ∙ locations_are (at + 1) vs
    ∙ ap (λ (n : ℕ). first_locations n) e

orders_upto : (es : List Event) → length es ≤ 128 → (n : ℕ)
    → map flat (product (map (λ l. orders_of l (others_at es l)) (first_locations n)))
    ≡ all_orders es n
unfolding stores_of
orders_upto es few zero = refl
orders_upto es few (suc n) =
    ap (λ (l : List (List (List ℕ))). map flat (product l)) (map-append
    (λ l. orders_of l (others_at es l)) (first_locations n) (n ∷ []))
    ∙ one_location_more (map (λ l. orders_of l (others_at es l)) (first_locations n))
    (orders_of n (others_at es n))
    ∙ ap (λ (l : List (List ℕ)). flat_map (each_behind (orders_of n (others_at es n))) l)
    (orders_upto es few n)
    ∙ ap
    (λ (l : List Event). flat_map (each_behind (orders_of n (numbers (is_thread_store n) 0 l)))
    (all_orders es n))
    (sym (take_all 128 es few))

-- so the orders that are found are those of the executions, of up to 128 events
pub orders_flat : (es : List Event) (initial : List Value) → length es ≤ 128
    → map flat (product (orders_at es initial)) ≡ all_orders es (length initial)
orders_flat es initial few =
    ap (λ (ls : List ℕ). map flat (product (map (λ l. orders_of l (others_at es l)) ls)))
    (locations_are 0 initial
    ∙ (let z : 0 + length initial ≡ length initial = omega arith in
    ap (λ (n : ℕ). first_locations n) z))
    ∙ orders_upto es few (length initial)
