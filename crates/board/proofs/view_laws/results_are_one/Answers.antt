use Rattle.board.proofs.Rights.{one_result}
use Rattle.board.proofs.view_laws.results_are_one.Goals as goal

pub returns : goal.returns
returns c = one_result
