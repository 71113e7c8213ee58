use Rattle.std.proofs.Common.{length}
use Rattle.plain_faults.proofs.item.+add_parameter_faults.Given as goal

abbrev pub decreases-add_parameter_faults : goal.decreases-add_parameter_faults
decreases-add_parameter_faults l = length l.parameters.now
