use Rattle.std.proofs.Common.{ℕ, ◌<◌, ◌≤◌}
use Rattle.base_names.specs.Events.{IsAccessAt, AreLocationsRising}
use Rattle.base_names.proofs.changing.is_rising.Given as goal

abbrev pub invariant-loop-index : goal.invariant-loop-index
invariant-loop-index l =
    AreLocationsRising l.events l.order l.index
    × ((i m : ℕ) → i < l.index → IsAccessAt l.events l.order i m → m ≤ l.greatest)
