use Rattle.std.proofs.Common.{length}
use Rattle.plain_faults.proofs.scope.+put_parameters.Given as goal

abbrev pub decreases-put_parameters : goal.decreases-put_parameters
decreases-put_parameters l = length l.parameters.now
