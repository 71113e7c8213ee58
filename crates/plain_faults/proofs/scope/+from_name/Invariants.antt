use Rattle.std.proofs.Common.{length}
use Rattle.plain_faults.proofs.scope.+from_name.Given as goal

abbrev pub decreases-from_name : goal.decreases-from_name
decreases-from_name l = length l.names.now
