use Rattle.std.proofs.Common.{◌+◌, ◌*◌, length}
use Rattle.plain_executions.proofs.cycle.+reads.Given as goal

abbrev pub decreases-is_read_from : goal.decreases-is_read_from
decreases-is_read_from l = 2 * length l.reads_from.now

abbrev pub decreases-is_read_behind : goal.decreases-is_read_behind
decreases-is_read_behind l = 2 * length l.reads_from.now + 1
