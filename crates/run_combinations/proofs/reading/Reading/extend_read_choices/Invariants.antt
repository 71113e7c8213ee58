use Rattle.store_orders.specs.Lists.{lists_of}
use Rattle.run_combinations.specs.Rounds.{ArePossible}
use Rattle.run_combinations.proofs.reading.Reading.extend_read_choices.Given as goal

abbrev pub invariant-loop-index : goal.invariant-loop-index
invariant-loop-index l =
    ArePossible l.self 0 (lists_of l.initial.read_choices.items)
    → ArePossible l.self l.index (lists_of l.read_choices.items)
