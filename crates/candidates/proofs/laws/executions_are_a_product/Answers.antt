use Rattle.candidates.proofs.Executing.{chosen_apart}
use Rattle.candidates.proofs.laws.executions_are_a_product.Goals as goal

pub returns : goal.returns
returns c =
    λ initial threads V runs reads coherences are r o.
    chosen_apart initial threads V runs reads coherences are r o
