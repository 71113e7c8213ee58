use Rattle.std.proofs.Common.{◌≡◌, map, take, length}
use Rattle.plain_events.specs.Combinations.{run_lists_as}
use Rattle.plain_events.proofs.combination.counts_of.Given as goal

abbrev pub invariant-loop-list : goal.invariant-loop-list
invariant-loop-list l =
    l.counts.items ≡ map (λ rs. length rs) (run_lists_as (take l.list-index l.lists))
