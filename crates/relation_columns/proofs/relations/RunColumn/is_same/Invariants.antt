use Rattle.std.proofs.Common.{ℕ, ◌≡◌, ◌-◌, ◌<◌, ◌≤◌}
use Rattle.relation_columns.specs.Runs.{rel_at}
use Rattle.relation_columns.proofs.relations.RunColumn.is_same.Given as goal

abbrev pub invariant-runs : goal.invariant-runs
invariant-runs l =
    (l.done ≤ l.count) × ((k : ℕ) → k < l.done → rel_at l.self k ≡ rel_at l.other k)

abbrev pub decreases-runs : goal.decreases-runs
decreases-runs l = l.count - l.done
