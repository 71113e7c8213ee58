-- A combination of runs as plain data, and its candidates as a list.
use Rattle.std.specs.Prelude.{ℕ, List, map}
use Rattle.std.specs.List.{flat_map}
use Rattle.taints.specs.DependencyLists.{DependencyLists, dependency_lists}
use Rattle.store_orders.specs.Lists.{lists_of}
use Rattle.store_orders.specs.Orders.{all_orders}
use Rattle.store_orders.specs.declared.combination.Event.{Event}
use Rattle.store_orders.specs.declared.combination.Combination.{Combination}

-- each of the first list with each of the second, the first one slowest
abbrev pub pairs : {X Y : Type 0} → List X → List Y → List (X × Y)
pairs xs ys = flat_map (λ x. map (λ y. (x, y)) ys) xs

-- the candidates of a combination: each read choice with each order of the stores
unfoldable pub candidates_of : Combination → List (List ℕ × List ℕ)
candidates_of c = pairs (lists_of c.reads_from.items) c.orders

-- a combination as plain data
pub record CombinationLists : Type 0 where
  pub events : List Event
  pub dependencies : DependencyLists
  pub runs : List ℕ
  pub reads_from : List (List ℕ)
  pub orders : List (List ℕ)

abbrev pub combination_lists : Combination → CombinationLists
combination_lists c = record {
  events = c.events.items;
  dependencies = dependency_lists c.dependencies;
  runs = c.runs.items;
  reads_from = lists_of c.reads_from.items;
  orders = c.orders;
}

-- the combination with the orders of its stores, of the first locations
abbrev pub ordered : ℕ → CombinationLists → CombinationLists
ordered n s = record s { orders = all_orders s.events n }
