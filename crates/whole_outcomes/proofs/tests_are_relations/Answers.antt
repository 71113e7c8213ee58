use Rattle.whole_outcomes.proofs.Words.{relations_told}
use Rattle.whole_outcomes.proofs.tests_are_relations.Goals as goal

pub returns : goal.returns
returns c = relations_told
