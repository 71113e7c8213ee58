use Rattle.std.proofs.Common.{◌≡◌, ◌++◌, drop}
use Rattle.bench_nodes.specs.Touched.{nodes_of_tests}
use Rattle.bench_nodes.proofs.touched.nodes_of_tests.Given as goal

abbrev pub invariant-loop-test : goal.invariant-loop-test
invariant-loop-test l =
    l.nodes.items ++ nodes_of_tests l.names (drop l.test-index l.tests)
    ≡ nodes_of_tests l.names l.tests
