use Rattle.std.proofs.Common.{length}
use Rattle.plain_executions.proofs.order.+is_once.Given as goal

abbrev pub decreases-is_once : goal.decreases-is_once
decreases-is_once l = length l.order.now
