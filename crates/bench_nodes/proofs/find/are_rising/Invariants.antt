use Rattle.std.proofs.Common.{◌≡◌, drop}
use Rattle.bench_nodes.specs.Places.{rise_after, are_rising}
use Rattle.bench_nodes.proofs.find.are_rising.Given as goal

abbrev pub invariant-loop-test : goal.invariant-loop-test
invariant-loop-test l = rise_after l.last (drop l.test-index l.tests) ≡ are_rising l.tests
