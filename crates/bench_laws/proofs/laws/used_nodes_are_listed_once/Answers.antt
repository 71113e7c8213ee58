use Rattle.bench_laws.proofs.UsedOnce.{lists_each_node_once, has_each_node_once}
use Rattle.bench_laws.proofs.laws.used_nodes_are_listed_once.Goals as goal

pub returns : goal.returns
returns c = record { sound = lists_each_node_once; after = has_each_node_once }
