use Rattle.std.proofs.Common.{rules, ◌≡◌, [], length}
use Rattle.std.proofs.lemmas.Result.{IfOk-weaker}
use Rattle.command_answers.proofs.Reports.{told_of_test, told_of_model}
use Rattle.command_answers.specs.Reports.{IsTestTold, IsToldOf}
use Rattle.command_answers.proofs.reading.refusal_lines.Goals as goal

pub returns-then-is_empty : goal.returns-then-is_empty
returns-then-is_empty c =
    let empty : length c.in_ok-lines.lines.items ≡ 0 = search rules in
    IfOk-weaker c.test_refusal_lines.result (λ v. IsTestTold c.args.test.now [] v.items)
    (λ v. IsToldOf c.args.model.now c.args.test.now v.items)
    (λ v h. told_of_test c.args.model.now c.args.test.now c.in_ok-lines.lines.items v.items empty
    c.in_ok-lines.ensures h) c.test_refusal_lines.ensures

pub returns : goal.returns
returns c =
    told_of_model c.args.model.now c.args.test.now c.in_ok-lines.lines.items (search rules)
    c.in_ok-lines.ensures
