use Rattle.std.proofs.Common.{length}
use Rattle.plain_faults.proofs.application.+add_found.Given as goal

abbrev pub decreases-add_found : goal.decreases-add_found
decreases-add_found l = length l.findings.now
