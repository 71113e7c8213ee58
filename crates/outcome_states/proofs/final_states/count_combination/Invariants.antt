use Rattle.std.proofs.Common.{take, map, length}
use Rattle.outcome_states.specs.Counting.{Counts}
use Rattle.outcome_states.specs.Ends.{candidate_final_value}
use Rattle.outcome_states.specs.Order.{is_state}
use Rattle.outcome_states.proofs.Columns.{by_orders}
use Rattle.outcome_states.proofs.final_states.count_combination.Given as goal

abbrev pub invariant-loop-k : goal.invariant-loop-k
invariant-loop-k l =
    Counts l.initial.tally.counts.entries l.tally.counts.entries (λ v. by_orders
    (λ o. is_state v (map (candidate_final_value l.space l.combination o) l.observables))
    (length l.combination.reads_from.items) (length l.combination.orders) 0 l.kept
    (take l.k l.combination.orders))
