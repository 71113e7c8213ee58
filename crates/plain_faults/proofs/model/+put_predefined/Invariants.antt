use Rattle.std.proofs.Common.{length}
use Rattle.plain_faults.proofs.model.+put_predefined.Given as goal

abbrev pub decreases-put_predefined : goal.decreases-put_predefined
decreases-put_predefined l = length l.all.now
