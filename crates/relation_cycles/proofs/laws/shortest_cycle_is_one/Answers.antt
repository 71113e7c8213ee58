use Rattle.bit_rows.specs.Relation.{Has}
use Rattle.relation_cycles.proofs.Steps.{one_cycle}
use Rattle.relation_cycles.proofs.laws.shortest_cycle_is_one.Goals as goal

pub returns : goal.returns
returns c = λ r. one_cycle (Has r)
