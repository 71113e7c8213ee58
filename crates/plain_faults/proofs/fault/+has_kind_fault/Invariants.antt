use Rattle.std.proofs.Common.{length}
use Rattle.plain_faults.proofs.fault.+has_kind_fault.Given as goal

abbrev pub decreases-has_kind_fault : goal.decreases-has_kind_fault
decreases-has_kind_fault l = length l.faults.now
