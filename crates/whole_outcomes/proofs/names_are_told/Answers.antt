use Rattle.whole_outcomes.proofs.Names.{names_told}
use Rattle.whole_outcomes.proofs.names_are_told.Goals as goal

pub returns : goal.returns
returns c = names_told c.args.combination.now
