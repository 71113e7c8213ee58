use Rattle.candidate_spaces.proofs.Comparing.{all_left}
use Rattle.candidate_spaces.proofs.same.Candidates.new.Goals as goal

pub returns : goal.returns
returns c = all_left c.args.combinations.now
