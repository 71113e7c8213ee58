use Rattle.std.proofs.Common.{◌≡◌, ◌++◌, drop}
use Rattle.report_page.specs.Summary.{model_lines}
use Rattle.report_page.proofs.summary.put_model_lines.Given as goal

-- what is written, with what is left to write, is all
abbrev pub invariant-loop-number : goal.invariant-loop-number
invariant-loop-number l =
    l.text.items ++ model_lines l.tests l.number (drop l.number l.models)
    ≡ l.initial.text.items ++ model_lines l.tests 0 l.models
