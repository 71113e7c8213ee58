use Rattle.std.proofs.Common.{length}
use Rattle.plain_faults.proofs.application.+arguments_of.Given as goal

abbrev pub decreases-arguments_of : goal.decreases-arguments_of
decreases-arguments_of l = length l.findings.now
