-- The orders of stores whose rows are kept. Read `Orders` and `Rows` of store_orders first. Read next:
-- KeptRows.
use Rattle.std.specs.Prelude.{ℕ, zero, suc, ◌≡◌, ◌<◌, Bool, false, List, [], ◌∷◌, ◌++◌, filter, Contains}
use Rattle.std.specs.List.{flat_map}
use Rattle.store_orders.specs.Lists.{each_behind}
use Rattle.store_orders.specs.Rows.{rows_of}
use Rattle.store_orders.specs.declared.combination.Event.{Event}

-- the orders of the stores of the first locations, with one of the kept rows of each. A test says
-- which rows of a location are kept
abbrev pub kept_orders : (ℕ → List ℕ → Bool) → List Event → ℕ → List (List ℕ)
kept_orders kept events zero = [] ∷ []
kept_orders kept events (suc n) =
    flat_map (each_behind (filter (kept n) (rows_of events n))) (kept_orders kept events n)

-- the order has a row of one of the first locations that is not kept
pub record HasRefusedRow (kept : ℕ → List ℕ → Bool) (events : List Event) (n : ℕ) (order : List ℕ)
    : Type 0 where
  pub location : ℕ
  pub below : location < n
  pub before : List ℕ
  pub row : List ℕ
  pub behind : List ℕ
  pub is : order ≡ before ++ row ++ behind
  pub there : Contains (rows_of events location) row
  pub refused : kept location row ≡ false
