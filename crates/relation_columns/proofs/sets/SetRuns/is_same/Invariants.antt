use Rattle.std.proofs.Common.{ℕ, ◌≡◌, ◌-◌, ◌<◌, ◌≤◌}
use Rattle.relation_columns.specs.Runs.{set_at}
use Rattle.relation_columns.proofs.sets.SetRuns.is_same.Given as goal

abbrev pub invariant-runs : goal.invariant-runs
invariant-runs l = (l.done ≤ l.count) × ((k : ℕ) → k < l.done → set_at l.self k ≡ set_at l.other k)

abbrev pub decreases-runs : goal.decreases-runs
decreases-runs l = l.count - l.done
