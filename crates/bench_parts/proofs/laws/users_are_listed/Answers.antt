use Rattle.bench_nodes.proofs.Laws.{users_are_among}
use Rattle.bench_parts.specs.States.{given_to_node, is_given}
use Rattle.bench_parts.proofs.laws.users_are_listed.Goals as goal

pub returns : goal.returns
returns c = λ s. users_are_among s.parts.table (λ n g. is_given (given_to_node s n) g)
