use Rattle.std.proofs.Common.{◌≡◌, take, count_by}
use Rattle.report_page.specs.Summary.{differs}
use Rattle.report_page.proofs.summary.difference_count.Given as goal

abbrev pub invariant-loop-test : goal.invariant-loop-test
invariant-loop-test l =
    l.count ≡ count_by (differs l.first l.second) (take l.test-index l.tests)
