use Rattle.candidates.proofs.Whole.{none_left_out}
use Rattle.candidates.proofs.laws.events_are_whole.Goals as goal

pub returns : goal.returns
returns c = λ t r thread e. none_left_out thread t.lines t.first r.values r.outcome e
