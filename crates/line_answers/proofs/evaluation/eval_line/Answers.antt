use Rattle.std.proofs.Common.{rules, ◌≡◌, ℕ, List, subst}
use Rattle.std.proofs.lemmas.Result.{IfOk-weaker}
use Rattle.cat_tokens.specs.Tokens.{digits_number as model_rule_number}
use Rattle.outcome_lines.specs.Json as json
use Rattle.command_answers.proofs.Answering.{model_refused}
use Rattle.command_answers.specs.Answer.{IsModelRefused}
use Rattle.line_answers.specs.Results.{rule_text, refused_file}
use Rattle.line_answers.specs.Evaluations.{IsEvalLine, IsModelRefusal}
use Rattle.line_answers.proofs.Evaluations.{by_rule}
use Rattle.line_answers.proofs.evaluation.eval_line.Goals as goal

pub returns-in-Err-Refused : goal.returns-in-Err-Refused
returns-in-Err-Refused c =
    let rule = c.in-Err-Refused.rule in
    let offset = c.in-Err-Refused.offset in
    let file = c.args.model.now in
    let refused = subst (λ (l : List ℕ). IsModelRefused l rule offset) c.deref.ensures.value (model_refused c.deref.result.now c.in-Err-Refused.field-0 rule offset c.in-Err-Refused.field-0-is c.in-Err-Refused.ensures.only c.in-Err-Refused.ensures.fault) in
    let same : c.number.result ≡ model_rule_number rule = search rules in
    IfOk-weaker c.refused_line.result
    (λ v. v.items ≡ json.refused_line (refused_file file (rule_text 67 c.number.result) offset))
    (λ v. IsEvalLine file c.args.test.now v.items)
    (λ v e. IsModelRefusal rule offset refused
    (by_rule v.items file 67 c.number.result (model_rule_number rule) offset same e))
    c.refused_line.ensures
