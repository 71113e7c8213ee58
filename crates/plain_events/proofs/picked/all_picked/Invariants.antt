use Rattle.std.proofs.Common.{◌≡◌, map, take}
use Rattle.plain_events.specs.Choices.{pick, lists_as}
use Rattle.plain_events.specs.Combinations.{run_lists_as}
use Rattle.plain_events.proofs.picked.all_picked.Given as goal

abbrev pub invariant-loop-indexes : goal.invariant-loop-indexes
invariant-loop-indexes l =
    run_lists_as l.combinations.items
    ≡ map (pick (run_lists_as l.lists)) (lists_as (take l.indexes-index l.all))
