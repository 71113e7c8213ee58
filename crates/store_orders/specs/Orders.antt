-- Orders of the stores of each location, and of all stores.
use Rattle.std.specs.Prelude.{ℕ, zero, suc, ◌≡◌, ◌<◌, ◌-◌, ◌*◌, List, [], ◌∷◌, ◌++◌, map, filter, take, replicate, length, Bool, true, false, not, ◌&&◌, is_some}
use Rattle.std.specs.List.{flat_map}
use Rattle.store_orders.specs.Events.{numbers, is_store_to, has_store, AreDistinct}
use Rattle.store_orders.specs.Lists.{tuples, IsFiltered, each_behind}
use Rattle.store_orders.specs.declared.combination.Event.{Event}

-- the list with each of the stores that it lacks behind it
abbrev pub with_new : List ℕ → List ℕ → List (List ℕ)
with_new stores prefix =
    map (λ store. prefix ++ store ∷ []) (filter (λ store. not (has_store prefix store)) stores)

-- the orders of the first store and the others that begin with it and have no store twice, in
-- lexicographic order
abbrev pub AreOrders : ℕ → List ℕ → List (List ℕ) → Type 0
AreOrders first others orders =
    IsFiltered AreDistinct (tuples [] ((first ∷ []) ∷ replicate (length others) others)) orders

-- the same, as a test
abbrev pub are_distinct : List ℕ → Bool
are_distinct [] = true
are_distinct (x ∷ xs) = not (has_store xs x) && are_distinct xs

abbrev pub orders_of : ℕ → List ℕ → List (List ℕ)
orders_of first others =
    filter are_distinct (tuples [] ((first ∷ []) ∷ replicate (length others) others))

abbrev pub is_thread_store : ℕ → Event → Bool
is_thread_store location e = is_some e.thread && is_store_to location e.action

-- the numbers of the threads' stores of a location, of up to 128 events
unfoldable pub stores_of : List Event → ℕ → List ℕ
stores_of events location = numbers (is_thread_store location) 0 (take 128 events)

-- the orders of the stores of the first locations: each of the initial store of a location, which
-- has the number of the location, and the threads' stores of it, and these after one another, in
-- lexicographic order
abbrev pub all_orders : List Event → ℕ → List (List ℕ)
all_orders events zero = [] ∷ []
all_orders events (suc n) =
    flat_map (each_behind (orders_of n (stores_of events n))) (all_orders events n)

-- in how many ways so many of a number of things can stand in a row
abbrev pub arrangement_count : ℕ → ℕ → ℕ
arrangement_count count zero = 1
arrangement_count count (suc positions) = arrangement_count count positions * (count - positions)

-- the initial store of each of the first locations, which has the number of the location, is no
-- store of a thread to it
abbrev pub AreInitialStoresApart : List Event → ℕ → Type 0
AreInitialStoresApart events n =
    (location : ℕ) → location < n → has_store (stores_of events location) location ≡ false
