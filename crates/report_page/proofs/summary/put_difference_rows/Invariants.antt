use Rattle.std.proofs.Common.{◌≡◌, ◌++◌, drop}
use Rattle.report_page.specs.Summary.{difference_rows}
use Rattle.report_page.proofs.summary.put_difference_rows.Given as goal

-- what is written, with what is left to write, is all
abbrev pub invariant-loop-number : goal.invariant-loop-number
invariant-loop-number l =
    l.text.items ++ difference_rows l.tests l.models l.number (drop l.number l.models)
    ≡ l.initial.text.items ++ difference_rows l.tests l.models 0 l.models
