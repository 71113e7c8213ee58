use Rattle.std.proofs.Common.{◌≡◌, ◌++◌, drop}
use Rattle.bench_nodes.specs.Touched.{nodes_named}
use Rattle.bench_nodes.proofs.touched.put_nodes.Given as goal

abbrev pub invariant-loop-name : goal.invariant-loop-name
invariant-loop-name l =
    l.nodes.items ++ nodes_named l.test (drop l.name-index l.names)
    ≡ l.initial.nodes.items ++ nodes_named l.test l.names
