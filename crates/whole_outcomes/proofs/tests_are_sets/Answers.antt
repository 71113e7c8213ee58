use Rattle.whole_outcomes.proofs.Words.{sets_told}
use Rattle.whole_outcomes.proofs.tests_are_sets.Goals as goal

pub returns : goal.returns
returns c = sets_told
