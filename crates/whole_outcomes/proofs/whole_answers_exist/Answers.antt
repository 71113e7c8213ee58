use Rattle.whole_outcomes.proofs.Wholes.{answers_whole}
use Rattle.whole_outcomes.proofs.whole_answers_exist.Goals as goal

pub returns : goal.returns
returns c = answers_whole c.args.check.now
