use Rattle.std.proofs.Common.{◌≡◌, ◌++◌, drop}
use Rattle.report_page.specs.Summary.{model_anchors}
use Rattle.report_page.proofs.summary.put_model_anchors.Given as goal

-- what is written, with what is left to write, is all
abbrev pub invariant-loop-number : goal.invariant-loop-number
invariant-loop-number l =
    l.text.items ++ model_anchors l.number (drop l.number l.models)
    ≡ l.initial.text.items ++ model_anchors 0 l.models
