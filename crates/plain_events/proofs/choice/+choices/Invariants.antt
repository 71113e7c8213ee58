use Rattle.std.proofs.Common.{◌+◌, ◌*◌, length}
use Rattle.plain_events.proofs.choice.+choices.Given as goal

abbrev pub decreases-choices : goal.decreases-choices
decreases-choices l = 2 * length l.counts.now

abbrev pub decreases-choices_behind : goal.decreases-choices_behind
decreases-choices_behind l = 2 * length l.rest.now + 1
