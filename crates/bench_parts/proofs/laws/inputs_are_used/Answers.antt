use Rattle.bench_nodes.proofs.Laws.{used_is_closed}
use Rattle.bench_parts.specs.States.{given_to_node, is_given}
use Rattle.bench_parts.proofs.laws.inputs_are_used.Goals as goal

pub returns : goal.returns
returns c = λ s valid. used_is_closed s.parts.table (λ n g. is_given (given_to_node s n) g) valid.ordered
