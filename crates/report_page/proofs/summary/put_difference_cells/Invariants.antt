use Rattle.std.proofs.Common.{◌≡◌, ◌++◌, drop}
use Rattle.report_page.specs.Summary.{difference_cells}
use Rattle.report_page.proofs.summary.put_difference_cells.Given as goal

-- what is written, with what is left to write, is all
abbrev pub invariant-loop-second : goal.invariant-loop-second
invariant-loop-second l =
    l.text.items ++ difference_cells l.tests l.first l.second (drop l.second l.models)
    ≡ l.initial.text.items ++ difference_cells l.tests l.first 0 l.models
