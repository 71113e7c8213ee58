use Rattle.std.proofs.Common.{◌+◌, ◌*◌, length}
use Rattle.plain_outcomes.proofs.states.+same.Given as goal

abbrev pub decreases-is_same_state : goal.decreases-is_same_state
decreases-is_same_state l = 2 * length l.first.now

abbrev pub decreases-is_same_behind : goal.decreases-is_same_behind
decreases-is_same_behind l = 2 * length l.values.now + 1
