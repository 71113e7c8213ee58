use Rattle.std.proofs.Common.{◌≡◌, take, count_by}
use Rattle.report_details.specs.Groups.{are_told_apart}
use Rattle.report_page.proofs.summary.apart_count.Given as goal

abbrev pub invariant-loop-test : goal.invariant-loop-test
invariant-loop-test l =
    l.count ≡ count_by (λ t. are_told_apart t.outcomes) (take l.test-index l.tests)
