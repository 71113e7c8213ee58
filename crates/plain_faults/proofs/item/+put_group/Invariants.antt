use Rattle.std.proofs.Common.{length}
use Rattle.plain_faults.proofs.item.+put_group.Given as goal

abbrev pub decreases-put_group : goal.decreases-put_group
decreases-put_group l = length l.group.now
