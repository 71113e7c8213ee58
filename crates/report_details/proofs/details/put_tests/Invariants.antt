use Rattle.std.proofs.Common.{◌≡◌, ◌++◌, drop}
use Rattle.report_details.specs.Details.{tests_details}
use Rattle.report_details.proofs.details.put_tests.Given as goal

-- what is written, with what is left to write, is all
abbrev pub invariant-loop-number : goal.invariant-loop-number
invariant-loop-number l =
    l.text.items ++ tests_details l.models l.number (drop l.number l.tests)
    ≡ l.initial.text.items ++ tests_details l.models 0 l.tests
