use Rattle.std.proofs.Common.{◌∙◌, ap, ◌++◌, List}
use Rattle.meaning.specs.Faults.{ModelFault, outermost_scope}
use Rattle.meaning.proofs.Checks.{faults_first}
use Rattle.meaning.proofs.laws.a_fault_stays.Goals as goal

pub returns : goal.returns
returns c = λ t items more k faulty.
    let first : _ = faults_first outermost_scope items more in (
      faulty.0 ++ first.0,
      first.1 ∙ ap (λ (fs : List ModelFault). fs ++ first.0) faulty.1,
    )
