use Rattle.std.proofs.Common.{length}
use Rattle.plain_faults.proofs.fault.+has_monotone_fault.Given as goal

abbrev pub decreases-has_monotone_fault : goal.decreases-has_monotone_fault
decreases-has_monotone_fault l = length l.faults.now
