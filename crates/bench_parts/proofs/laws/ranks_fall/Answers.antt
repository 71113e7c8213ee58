use Rattle.bench_nodes.proofs.Laws.{ranks_fall}
use Rattle.bench_parts.specs.States.{given_to_node, is_given}
use Rattle.bench_parts.proofs.laws.ranks_fall.Goals as goal

pub returns : goal.returns
returns c = λ s valid. ranks_fall s.parts.table (λ n g. is_given (given_to_node s n) g) valid.ordered
