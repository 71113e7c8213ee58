use Rattle.std.proofs.Common.{length}
use Rattle.plain_faults.proofs.item.+add_group_faults.Given as goal

abbrev pub decreases-add_group_faults : goal.decreases-add_group_faults
decreases-add_group_faults l = length l.group.now
