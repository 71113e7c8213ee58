-- Rows of stores that are kept, and how many rows there are. Read `Orders` first.
use Rattle.std.specs.Prelude.{ℕ, zero, suc, ◌+◌, List, [], ◌∷◌, Bool, true, false, length}
use Rattle.store_orders.specs.Orders.{orders_of, stores_of, arrangement_count}
use Rattle.store_orders.specs.declared.combination.Event.{Event}

-- the rows in which the stores of a location can stand
abbrev pub rows_of : List Event → ℕ → List (List ℕ)
rows_of events location = orders_of location (stores_of events location)

-- the rows at whose index there is a `true`
abbrev pub rows_kept : List (List ℕ) → List Bool → List (List ℕ)
rows_kept [] answers = []
rows_kept (row ∷ rows) [] = []
rows_kept (row ∷ rows) (true ∷ answers) = row ∷ rows_kept rows answers
rows_kept (row ∷ rows) (false ∷ answers) = rows_kept rows answers

-- how many rows the first locations have
abbrev pub row_total : List Event → ℕ → ℕ
row_total events zero = 0
row_total events (suc n) =
    row_total events n
    + arrangement_count (length (stores_of events n)) (length (stores_of events n))
