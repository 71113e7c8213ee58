use Rattle.std.proofs.Common.{length}
use Rattle.plain_names.proofs.related.+stands_before.Given as goal

abbrev pub decreases-stands_before : goal.decreases-stands_before
decreases-stands_before l = length l.order.now
