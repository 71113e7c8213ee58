use Rattle.meaning.specs.Names.{locations}
use Rattle.meaning_executions.proofs.Located.{rises}
use Rattle.meaning_executions.proofs.Machines.{apart, does_same}
use Rattle.meaning_executions.proofs.instructions_do_the_same.Goals as goal

pub returns : goal.returns
returns c t labels i s u same =
    does_same (locations t) (apart (locations t) (rises t)) labels s u same i
