use Rattle.candidates.proofs.Outcomes.{shown_alike}
use Rattle.candidates.proofs.laws.spaces_show_the_same.Goals as goal

pub returns : goal.returns
returns c = shown_alike c.args.test.now c.args.first.now c.args.second.now
