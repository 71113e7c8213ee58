use Rattle.std.proofs.Common.{◌≡◌, ◌++◌, drop}
use Rattle.report_page.specs.Page.{models_details}
use Rattle.report_page.proofs.page.put_models.Given as goal

-- what is written, with what is left to write, is all
abbrev pub invariant-loop-number : goal.invariant-loop-number
invariant-loop-number l =
    l.text.items ++ models_details l.number (drop l.number l.models)
    ≡ l.initial.text.items ++ models_details 0 l.models
