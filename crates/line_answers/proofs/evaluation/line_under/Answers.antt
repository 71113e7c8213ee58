use Rattle.std.proofs.Common.{rules, ◌≡◌, ℕ, List, subst}
use Rattle.std.proofs.lemmas.Result.{IfOk-weaker}
use Rattle.text_values.specs.ModelValues.{clauses_of}
use Rattle.litmus_tokens.specs.Numbers.{number_of as test_rule_number}
use Rattle.outcome_lines.specs.Json as json
use Rattle.command_answers.proofs.Answering.{test_refused}
use Rattle.command_answers.specs.Answer.{IsTestRefused}
use Rattle.line_answers.specs.Results.{rule_text, refused_file}
use Rattle.line_answers.specs.Evaluations.{IsOutcomeText, IsEvalLine, IsOutcomeLine, IsTestRefusal}
use Rattle.line_answers.proofs.Evaluations.{by_rule}
use Rattle.line_answers.proofs.evaluation.line_under.Goals as goal

pub returns-in-Ok : goal.returns-in-Ok
returns-in-Ok c =
    IfOk-weaker c.outcome_line.result
    (λ v. IsOutcomeText c.args.model.now c.args.test.now c.in-Ok.known c.args.items.now v.items)
    (λ v. IsEvalLine c.args.model.now c.args.test.now v.items)
    (λ v h. IsOutcomeLine c.args.items.now c.in-Ok.known c.requires (search rules) h)
    c.outcome_line.ensures

pub returns-in-Err-Refused : goal.returns-in-Err-Refused
returns-in-Err-Refused c =
    let rule = c.in-Err-Refused.rule in
    let offset = c.in-Err-Refused.offset in
    let file = c.args.test.now in
    let refused = subst (λ (l : List ℕ). IsTestRefused l rule offset) c.deref.ensures.value (test_refused c.deref.result.now c.in-Err-Refused.field-0 rule offset c.in-Err-Refused.field-0-is c.in-Err-Refused.ensures.only c.in-Err-Refused.ensures.fault) in
    let same : c.number.result ≡ test_rule_number rule = search rules in
    IfOk-weaker c.refused_line.result
    (λ v. v.items ≡ json.refused_line (refused_file file (rule_text 76 c.number.result) offset))
    (λ v. IsEvalLine c.args.model.now file v.items)
    (λ v e. IsTestRefusal rule offset (clauses_of c.args.items.now.items.items, c.requires) refused
    (by_rule v.items file 76 c.number.result (test_rule_number rule) offset same e))
    c.refused_line.ensures
