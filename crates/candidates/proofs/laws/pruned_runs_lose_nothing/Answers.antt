use Rattle.candidates.proofs.Listing.{none_executed}
use Rattle.candidates.proofs.laws.pruned_runs_lose_nothing.Goals as goal

pub returns : goal.returns
returns c = λ initial threads V runs are stuck. none_executed initial threads V runs are stuck
