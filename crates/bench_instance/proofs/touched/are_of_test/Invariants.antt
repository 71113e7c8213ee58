use Rattle.std.proofs.Common.{◌≡◌, drop}
use Rattle.bench_instance.specs.Above.{are_of_test}
use Rattle.bench_instance.proofs.touched.are_of_test.Given as goal

abbrev pub invariant-loop-node : goal.invariant-loop-node
invariant-loop-node l =
    are_of_test (drop l.node-index l.nodes) l.test ≡ are_of_test l.nodes l.test
