use Rattle.std.proofs.Common.{ℕ, ◌≡◌, ◌<◌, get_or}
use Rattle.thread_runs.specs.declared.value.Value.{Value}
use Rattle.thread_runs.proofs.location_values.are_same_values.Given as goal

abbrev pub invariant-loop-index : goal.invariant-loop-index
invariant-loop-index l =
    (k : ℕ) (d : Value) → k < l.index → get_or l.first k d ≡ get_or l.second k d
