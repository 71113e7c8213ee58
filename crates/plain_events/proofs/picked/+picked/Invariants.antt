use Rattle.std.proofs.Common.{◌+◌, ◌*◌, length}
use Rattle.plain_events.proofs.picked.+picked.Given as goal

abbrev pub decreases-put_picked : goal.decreases-put_picked
decreases-put_picked l = 3 * length l.lists.now

abbrev pub decreases-put_both : goal.decreases-put_both
decreases-put_both l = 3 * length l.lists.now + 1

abbrev pub decreases-put_behind : goal.decreases-put_behind
decreases-put_behind l = 3 * length l.lists.now + 2
