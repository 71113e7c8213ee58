use Rattle.std.proofs.Common.{◌≡◌, ◌++◌, drop}
use Rattle.report_page.specs.Table.{test_rows}
use Rattle.report_page.proofs.table.put_rows.Given as goal

-- what is written, with what is left to write, is all
abbrev pub invariant-loop-number : goal.invariant-loop-number
invariant-loop-number l =
    l.text.items ++ test_rows l.number (drop l.number l.tests)
    ≡ l.initial.text.items ++ test_rows 0 l.tests
