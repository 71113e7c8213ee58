use Rattle.std.proofs.Common.{length}
use Rattle.plain_faults.proofs.model.+add_faults.Given as goal

abbrev pub decreases-add_faults : goal.decreases-add_faults
decreases-add_faults l = length l.items.now
