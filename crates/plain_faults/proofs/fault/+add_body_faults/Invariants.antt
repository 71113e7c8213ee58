use Rattle.std.proofs.Common.{length}
use Rattle.plain_faults.proofs.fault.+add_body_faults.Given as goal

abbrev pub decreases-add_body_faults : goal.decreases-add_body_faults
decreases-add_body_faults l = length l.more.now
