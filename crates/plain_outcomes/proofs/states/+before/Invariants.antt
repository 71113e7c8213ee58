use Rattle.std.proofs.Common.{◌+◌, ◌*◌, length}
use Rattle.plain_outcomes.proofs.states.+before.Given as goal

abbrev pub decreases-is_state_before : goal.decreases-is_state_before
decreases-is_state_before l = 2 * length l.first.now

abbrev pub decreases-is_before_behind : goal.decreases-is_before_behind
decreases-is_before_behind l = 2 * length l.values.now + 1
