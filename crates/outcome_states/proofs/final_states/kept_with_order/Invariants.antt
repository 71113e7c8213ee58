use Rattle.std.proofs.Common.{◌≡◌, ◌+◌, ◌-◌, ◌≤◌}
use Rattle.outcome_states.specs.Counting.{count_column}
use Rattle.outcome_states.proofs.final_states.kept_with_order.Given as goal

abbrev pub invariant-loop-reads_from : goal.invariant-loop-reads_from
invariant-loop-reads_from l =
    (l.count ≤ l._reads_from)
    × (l.count + count_column (l.read_choices - l._reads_from) l.orders l.order l.rest
    ≡ count_column l.read_choices l.orders l.order l.kept)
