use Rattle.std.proofs.Common.{◌≡◌, List, [], false, map, ap}
use Rattle.store_orders.specs.Combinations.{combination_lists}
use Rattle.run_combinations.specs.Search.{Tally, no_tally, tally, all_combinations, location_count}
use Rattle.store_orders.specs.declared.combination.Combination.{Combination}
use Rattle.run_combinations.proofs.Searching.{found_all, found_over}
use Rattle.run_combinations.proofs.search.find_combinations.Goals as goal

abbrev tally_of : List Combination → Tally
tally_of cs = record { kept = map combination_lists cs; count = 0; faulted = false }

empty_tally : (cs : List Combination) → cs ≡ [] → tally_of cs ≡ no_tally
empty_tally cs e = ap (λ (c : List Combination). tally_of c) e

pub returns-then-branch : goal.returns-then-branch
returns-then-branch c = λ key k fit.
    found_all (location_count c.args.layout.now) (all_combinations c.args.layout.now)
    c.in_ok-search_all.field-0 (tally c.search_all.new.found) c.if-branch.true
    (c.in_ok-search_all.ensures key k fit (empty_tally c.new.result.items c.new.ensures.items))

pub returns-else-branch : goal.returns-else-branch
returns-else-branch c = λ key k fit.
    found_over (location_count c.args.layout.now) (all_combinations c.args.layout.now)
    c.in_ok-search_all.field-0 (tally c.search_all.new.found) c.if-branch.false
    (c.in_ok-search_all.ensures key k fit (empty_tally c.new.result.items c.new.ensures.items))
