use Rattle.std.proofs.Common.{◌≡◌, drop}
use Rattle.bench_nodes.specs.Nodes.{fault_stamp}
use Rattle.bench_nodes.proofs.find.fault_stamp.Given as goal

abbrev pub invariant-loop-model : goal.invariant-loop-model
invariant-loop-model l = fault_stamp (drop l.model-index l.models) l.id ≡ fault_stamp l.models l.id
