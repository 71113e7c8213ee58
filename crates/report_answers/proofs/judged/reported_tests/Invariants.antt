use Rattle.std.proofs.Common.{◌≡◌, take, map}
use Rattle.report_answers.specs.Known.{shown_test}
use Rattle.report_answers.proofs.judged.reported_tests.Given as goal

abbrev pub invariant-loop-test : goal.invariant-loop-test
invariant-loop-test l = l.reported.items ≡ map shown_test (take l.test-index l.tests)
