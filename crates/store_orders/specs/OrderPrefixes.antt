-- The orders that begin with a prefix, as they are found: the prefix is pushed onto, and cut back.
-- Read `Orders` first.
use Rattle.std.specs.Prelude.{ℕ, zero, suc, ◌+◌, List, [], ◌∷◌, ◌++◌, map, filter, drop, length, not}
use Rattle.std.specs.List.{flat_map}
use Rattle.store_orders.specs.Events.{has_store}
use Rattle.store_orders.specs.Orders.{stores_of}
use Rattle.store_orders.specs.declared.combination.Event.{Event}
use Rattle.store_orders.specs.declared.orders.LocationStores.{LocationStores}

-- the prefix with each of the stores that it lacks from an index on
abbrev pub with_new_from : ℕ → List ℕ → List ℕ → List (List ℕ)
with_new_from begin stores prefix =
    map (λ store. prefix ++ store ∷ []) (filter (λ store. not (has_store (drop begin prefix) store))
    stores)

-- the prefix with so many more of the stores, none of which it has twice from an index on, in
-- lexicographic order
abbrev pub rows_from : List ℕ → ℕ → ℕ → List ℕ → List (List ℕ)
rows_from stores begin zero prefix = prefix ∷ []
rows_from stores begin (suc left) prefix =
    flat_map (rows_from stores begin left) (with_new_from begin stores prefix)

-- the initial store of each location, with its stores by threads
abbrev pub store_lists : List LocationStores → List (ℕ × List ℕ)
store_lists locations = map (λ s. (s.initial, s.others.items)) locations

-- the same of the first locations, as the events have them
abbrev pub all_stores : List Event → ℕ → List (ℕ × List ℕ)
all_stores events zero = []
all_stores events (suc n) = all_stores events n ++ (n, stores_of events n) ∷ []

-- how many stores these locations have
abbrev pub width_of : List (ℕ × List ℕ) → ℕ
width_of [] = 0
width_of (s ∷ later) = 1 + length s.1 + width_of later

-- the orders that begin with the prefix and go on with the stores of these locations
abbrev pub orders_from : List (ℕ × List ℕ) → List ℕ → List (List ℕ)
orders_from [] prefix = prefix ∷ []
orders_from (s ∷ later) prefix =
    flat_map (orders_from later) (rows_from s.1 (length prefix) (length s.1) (prefix ++ s.0 ∷ []))
