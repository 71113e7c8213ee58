use Rattle.std.proofs.Common.{◌++◌, option_to_list}
use Rattle.store_orders.specs.Lists.{lists_of}
use Rattle.run_combinations.specs.ReadChoices.{nexts}
use Rattle.run_combinations.proofs.Extending.{GainsSome}
use Rattle.run_combinations.proofs.reading.Reading.extend.Given as goal

abbrev pub invariant-loop-store : goal.invariant-loop-store
invariant-loop-store l =
    GainsSome l.self l.load l.index l.reads_from.items l.store (lists_of l.initial.longer.items)
    (lists_of l.longer.items ++ nexts (option_to_list l.last) l.reads_from.items)
