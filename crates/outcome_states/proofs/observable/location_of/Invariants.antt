use Rattle.std.proofs.Common.{◌≡◌, ℕ, ◌<◌, [], false, get_or}
use Rattle.outcome_states.specs.Names.{is_name}
use Rattle.outcome_states.proofs.observable.location_of.Given as goal

abbrev pub invariant-loop-i : goal.invariant-loop-i
invariant-loop-i l = (k : ℕ) → k < l.i → is_name l.name (get_or l.locations k []) ≡ false
