use Rattle.std.proofs.Common.{ℕ, List, ◌++◌, sym, ap, ◌∙◌}
use Rattle.std.proofs.lemmas.List.{append-nil}
use Rattle.std.proofs.lemmas.Result.{on_ok_weaker}
use Rattle.line_answers.proofs.report.put_result.Goals as goal

pub returns-in-TableTab : goal.returns-in-TableTab
returns-in-TableTab c =
    rw c.in-TableTab.is (on_ok_weaker c.put_test_tab.result
    (λ e. e ∙ ap (λ (l : List ℕ). c.args.text.now.items ++ l) (sym (append-nil _)))
    c.put_test_tab.ensures)

pub returns-in-TableJson : goal.returns-in-TableJson
returns-in-TableJson c =
    rw c.in-TableJson.is (on_ok_weaker c.put_test_json.result
    (λ e. e ∙ ap (λ (l : List ℕ). c.args.text.now.items ++ l) (sym (append-nil _)))
    c.put_test_json.ensures)

pub returns-in-DifferenceTab : goal.returns-in-DifferenceTab
returns-in-DifferenceTab c =
    rw c.in-DifferenceTab.is (on_ok_weaker c.put_pair_tab.result
    (λ e. e ∙ ap (λ (l : List ℕ). c.args.text.now.items ++ l) (sym (append-nil _)))
    c.put_pair_tab.ensures)

pub returns-in-DifferenceJson : goal.returns-in-DifferenceJson
returns-in-DifferenceJson c =
    rw c.in-DifferenceJson.is (on_ok_weaker c.put_pair_json.result
    (λ e. e ∙ ap (λ (l : List ℕ). c.args.text.now.items ++ l) (sym (append-nil _)))
    c.put_pair_json.ensures)
