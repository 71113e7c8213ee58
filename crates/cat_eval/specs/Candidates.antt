-- The candidates of a combination, and how many names an item binds.
use Rattle.std.specs.Prelude.{ℕ, List, length, map, Vec}
use Rattle.std.specs.List.{flat_map}
use Rattle.std.specs.declared.alloc.Global.{Global}
use Rattle.store_orders.specs.declared.combination.Combination.{Combination}
use Rattle.candidate_spaces.specs.Space.{Candidate}
use Rattle.binding_graph.specs.declared.resolved.Role.{Role}
use Rattle.binding_graph.specs.declared.resolved.Role.TheVariants as roles

-- the candidates of a combination that read so, one for each order
abbrev pub reading_so : Combination → List ℕ → List (List ℕ) → List Candidate
reading_so combination reads_from orders =
    map (λ coherence. (combination, (reads_from, coherence))) orders

-- those with one of these reads-from, for each order of the stores
abbrev pub reading_in : Combination → List (Vec ℕ Global) → List Candidate
reading_in combination read_choices =
    flat_map (λ reads_from. reading_so combination reads_from.items combination.orders) read_choices

-- those of combinations after one another
abbrev pub of_combinations : List Combination → List Candidate
of_combinations combinations = flat_map (λ one. reading_in one one.reads_from.items) combinations

-- how many names an item binds
abbrev pub name_count : Role → ℕ
name_count (roles.Group recursive bodies) = length bodies.items
name_count (roles.Check check) = 0
name_count roles.Silent = 0
