use Rattle.meaning.specs.Names.{locations}
use Rattle.meaning_executions.proofs.Located.{rises}
use Rattle.meaning_executions.proofs.Machines.{apart, one_to_one}
use Rattle.meaning_executions.proofs.values_are_one_to_one.Goals as goal

pub returns : goal.returns
returns c t = one_to_one (locations t) (apart (locations t) (rises t))
