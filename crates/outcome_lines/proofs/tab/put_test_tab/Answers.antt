use Rattle.std.proofs.Common.{◌++◌, sym, ap, ◌∙◌}
use Rattle.std.proofs.lemmas.Result.{on_ok_weaker}
use Rattle.outcome_lines.specs.Records.{model_outcome_of}
use Rattle.outcome_lines.specs.Tab.{outcome_line}
use Rattle.outcome_lines.proofs.Parts.{parts_of_mapped}
use Rattle.outcome_lines.proofs.tab.put_test_tab.Goals as goal

pub returns-in-Tested : goal.returns-in-Tested
returns-in-Tested c =
    rw c.in-Tested.is (on_ok_weaker c.put_outcomes.result
    (λ e. e ∙ ap (λ l. c.args.text.now.items ++ l)
    (sym (parts_of_mapped (outcome_line c.in-Tested.path.now c.in-Tested.name.now) model_outcome_of c.in-Tested.outcomes.now)))
    c.put_outcomes.ensures)
