-- Laws of orders that are found by a prefix that grows.
use Rattle.std.proofs.Common.{ℕ, zero, suc, ◌≡◌, ◌+◌, ◌-◌, ◌<◌, ◌≤◌, take, List, [], ◌∷◌, ◌++◌, map, filter, drop, replicate, length, not, refl, sym, subst, ap, ◌∙◌, append-nil, arith}
use Rattle.std.specs.List.{concat, flat_map}
use Rattle.std.proofs.lemmas.List.{append_assoc, take_all}
use Rattle.std.proofs.lemmas.List.Folds.{flat_map-map}
use Rattle.thread_runs.proofs.RunList.{flat_map_same, flat_map-flat_map}
use Rattle.store_orders.specs.Lists.{each_behind, tuples, IsFiltered, none, kept}
use Rattle.store_orders.specs.Events.{has_store, AreDistinct}
use Rattle.store_orders.specs.Orders.{with_new, stores_of, orders_of, all_orders}
use Rattle.store_orders.specs.OrderPrefixes.{with_new_from, rows_from, store_lists, all_stores, orders_from}
use Rattle.store_orders.specs.declared.combination.Event.{Event}
use Rattle.store_orders.specs.declared.orders.LocationStores.{LocationStores}
use Rattle.store_orders.proofs.OrderLaws.{orders_more}
use Rattle.store_orders.proofs.Stores.{orders_are}

-- what is left to be done at the stores of these locations
abbrev pub weight : List (ℕ × List ℕ) → ℕ
weight [] = 0
weight (s ∷ later) = 2 + length s.1 + weight later

-- the orders with so many more of the stores, and those of later locations
abbrev pub rows_on : List (ℕ × List ℕ) → List ℕ → ℕ → ℕ → List ℕ → List (List ℕ)
rows_on later stores begin left prefix =
    flat_map (orders_from later) (rows_from stores begin left prefix)

drop_front : (f t : List ℕ) → drop (length f) (f ++ t) ≡ t
drop_front [] t = refl
drop_front (x ∷ xs) t = drop_front xs t

map-flat_map : (g : List ℕ → List ℕ) (h : List ℕ → List (List ℕ)) (xs : List (List ℕ))
    → flat_map (λ x. map g (h x)) xs ≡ map g (flat_map h xs)
map-flat_map g h [] = refl
map-flat_map g h (x ∷ xs) =
    ap (λ l. map g (h x) ++ l) (map-flat_map g h xs) ∙ sym (two (h x) (flat_map h xs))
  where
    two : (us vs : List (List ℕ)) → map g (us ++ vs) ≡ map g us ++ map g vs
    two [] vs = refl
    two (u ∷ us) vs = ap (λ l. g u ∷ l) (two us vs)

-- one location alone: a prefix of it with so many more of its stores
abbrev rows : List ℕ → ℕ → List ℕ → List (List ℕ)
rows others zero t = t ∷ []
rows others (suc n) t = flat_map (rows others n) (with_new others t)

joined_each : (f t xs : List ℕ)
    → map (λ s. (f ++ t) ++ s ∷ []) xs ≡ map (λ g. f ++ g) (map (λ s. t ++ s ∷ []) xs)
joined_each f t [] = refl
joined_each f t (x ∷ xs) = rw (append_assoc f t (x ∷ []), joined_each f t xs) refl

new_joined : (f t others : List ℕ)
    → with_new_from (length f) others (f ++ t) ≡ map (λ g. f ++ g) (with_new others t)
new_joined f t others =
    ap (λ (l : List ℕ). map (λ s. (f ++ t) ++ s ∷ []) (filter (λ s. not (has_store l s)) others))
    (drop_front f t)
    ∙ joined_each f t (filter (λ s. not (has_store t s)) others)

rows_joined : (others f : List ℕ) (n : ℕ) (t : List ℕ)
    → rows_from others (length f) n (f ++ t) ≡ each_behind (rows others n t) f
rows_joined others f zero t = refl
rows_joined others f (suc n) t =
    ap (λ (l : List (List ℕ)). flat_map (rows_from others (length f) n) l) (new_joined f t others)
    ∙ flat_map-map (rows_from others (length f) n) (λ g. f ++ g) (with_new others t)
    ∙ flat_map_same (λ g. rows_from others (length f) n (f ++ g))
    (λ g. each_behind (rows others n g) f) (with_new others t) (λ g. rows_joined others f n g)
    ∙ map-flat_map (λ g. f ++ g) (rows others n) (with_new others t)

pub one_each : (xs : List (List ℕ)) → flat_map (λ x. x ∷ []) xs ≡ xs
one_each [] = refl
one_each (x ∷ xs) = ap (λ l. x ∷ l) (one_each xs)

rows_more : (others : List ℕ) (n : ℕ) (t : List ℕ)
    → rows others (suc n) t ≡ flat_map (with_new others) (rows others n t)
rows_more others zero t = one_each (with_new others t) ∙ sym (append-nil (with_new others t))
rows_more others (suc n) t =
    flat_map_same (rows others (suc n)) (λ g. flat_map (with_new others) (rows others n g))
    (with_new others t) (λ g. rows_more others n g)
    ∙ sym (flat_map-flat_map (with_new others) (rows others n) (with_new others t))

rows_distinct : (first : ℕ) (others : List ℕ) (n : ℕ)
    → IsFiltered AreDistinct (tuples [] ((first ∷ []) ∷ replicate n others))
    (rows others n (first ∷ []))
rows_distinct first others zero = kept {x = first ∷ []} (refl, tt) none
rows_distinct first others (suc n) =
    let k : n + 1 ≡ suc n = omega arith in
    let At : ℕ → Type 0 = λ m. IsFiltered AreDistinct (tuples [] ((first ∷ []) ∷ replicate m others)) (rows others (suc n) (first ∷ [])) in
    subst At k (orders_more first others n (rows others n (first ∷ []))
    (rows others (suc n) (first ∷ [])) (rows_distinct first others n)
    (rows_more others n (first ∷ [])))

-- the orders of one location, behind a prefix
pub location_orders : (first : ℕ) (others f : List ℕ)
    → rows_from others (length f) (length others) (f ++ first ∷ [])
    ≡ each_behind (orders_of first others) f
location_orders first others f =
    rows_joined others f (length others) (first ∷ [])
    ∙ ap (λ (l : List (List ℕ)). each_behind l f) (orders_are first others
    (rows others (length others) (first ∷ [])) (rows_distinct first others (length others)))

abbrev location_from : ℕ × List ℕ → List ℕ → List (List ℕ)
location_from s f = rows_from s.1 (length f) (length s.1) (f ++ s.0 ∷ [])

one_location : (locations : List (ℕ × List ℕ)) (s : ℕ × List ℕ) (f : List ℕ)
    → orders_from (locations ++ s ∷ []) f ≡ flat_map (location_from s) (orders_from locations f)
one_location [] s f = one_each (location_from s f) ∙ sym (append-nil (location_from s f))
one_location (x ∷ xs) s f =
    flat_map_same (orders_from (xs ++ s ∷ [])) (λ g. flat_map (location_from s) (orders_from xs g))
    (location_from x f) (λ g. one_location xs s g)
    ∙ sym (flat_map-flat_map (location_from s) (orders_from xs) (location_from x f))

-- those of all locations
pub orders_are_all : (events : List Event) (n : ℕ)
    → orders_from (all_stores events n) [] ≡ all_orders events n
orders_are_all events zero = refl
orders_are_all events (suc n) =
    one_location (all_stores events n) (n, stores_of events n) []
    ∙ ap (λ (l : List (List ℕ)). flat_map (location_from (n, stores_of events n)) l)
    (orders_are_all events n)
    ∙ flat_map_same (location_from (n, stores_of events n))
    (each_behind (orders_of n (stores_of events n))) (all_orders events n)
    (λ g. location_orders n (stores_of events n) g)

-- after the last of the stores that may come next
pub rows_done : (later : List (ℕ × List ℕ)) (stores : List ℕ) (begin left i : ℕ)
    (prefix found before : List ℕ) → 0 < left → length stores ≤ i
    → found
    ≡ before
    ++ concat (flat_map (rows_on later stores begin (left - 1))
    (with_new_from begin (take i stores) prefix))
    → found ≡ before ++ concat (flat_map (orders_from later) (rows_from stores begin left prefix))
rows_done later stores begin zero i prefix found before some end e = absurd (omega (arith, some))
rows_done later stores begin (suc k) i prefix found before some end e =
    let n : suc k - 1 ≡ k = omega arith in
    e
    ∙ ap
    (λ (m : ℕ). before
    ++ concat (flat_map (rows_on later stores begin m)
    (with_new_from begin (take i stores) prefix))) n
    ∙ ap
    (λ (l : List ℕ). before
    ++ concat (flat_map (rows_on later stores begin k) (with_new_from begin l prefix)))
    (take_all i stores end)
    ∙ ap (λ (l : List (List ℕ)). before ++ concat l) (sym (flat_map-flat_map (orders_from later)
    (rows_from stores begin k) (with_new_from begin stores prefix)))

-- one location more, and those behind it
pub location_found : (locations later : List LocationStores) (s : LocationStores) (slice : List ℕ)
    (begin left : ℕ) (prefix longer found before : List ℕ) → locations ≡ s ∷ later
    → slice ≡ s.others.items → begin ≡ length prefix → left ≡ length s.others.items
    → longer ≡ prefix ++ s.initial ∷ []
    → found
    ≡ before
    ++ concat (flat_map (orders_from (store_lists later))
    (rows_from slice begin left longer))
    → found ≡ before ++ concat (orders_from (store_lists locations) prefix)
location_found locations later s slice begin left prefix longer found before split same b l more e =
    let Behind : List (List ℕ) → List ℕ = λ rows. before ++ concat (flat_map (orders_from (store_lists later)) rows) in
    e
    ∙ ap (λ (us : List ℕ). Behind (rows_from us begin left longer)) same
    ∙ ap (λ (n : ℕ). Behind (rows_from s.others.items n left longer)) b
    ∙ ap (λ (n : ℕ). Behind (rows_from s.others.items (length prefix) n longer)) l
    ∙ ap
    (λ (us : List ℕ).
    Behind (rows_from s.others.items (length prefix) (length s.others.items) us)) more
    ∙ ap (λ (ls : List LocationStores). before ++ concat (orders_from (store_lists ls) prefix))
    (sym split)
