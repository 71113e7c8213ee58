use Rattle.std.proofs.Common.{rules, ℕ, List, refl, subst}
use Rattle.std.proofs.lemmas.Result.{on_ok_weaker}
use Rattle.cat_tokens.specs.Tokens.{digits_number as model_rule_number}
use Rattle.command_answers.proofs.Answering.{model_refused}
use Rattle.command_answers.specs.Answer.{IsModelRefused}
use Rattle.report_answers.specs.Known.{IsKnownModel, IsUnknownModel}
use Rattle.report_answers.proofs.Known.{told_at}
use Rattle.report_answers.proofs.models.add_model.Goals as goal

pub returns-in_ok-push-in-Ok : goal.returns-in_ok-push-in-Ok
returns-in_ok-push-in-Ok c =
    IsKnownModel (record { file = c.args.file; model = c.in-Ok.model }) refl (search rules)
    c.in_ok-push-in-Ok.ensures.items refl

pub returns-in-Err-Refused : goal.returns-in-Err-Refused
returns-in-Err-Refused c =
    let refused = subst (λ (l : List ℕ). IsModelRefused l c.in-Err-Refused.rule c.in-Err-Refused.offset) c.deref.ensures.value (model_refused c.deref.result.now c.in-Err-Refused.field-0 c.in-Err-Refused.rule c.in-Err-Refused.offset c.in-Err-Refused.field-0-is c.in-Err-Refused.ensures.only c.in-Err-Refused.ensures.fault) in
    on_ok_weaker c.put_fault.result
    (λ e. IsUnknownModel c.in-Err-Refused.rule c.in-Err-Refused.offset refused refl
    (told_at c.args.faults.now.items c.put_fault.new.lines.items c.args.file.now.path.now
    c.args.file.now.text.items 67 c.number.result _ (model_rule_number c.in-Err-Refused.rule)
    c.in-Err-Refused.offset (search rules) (search rules) e))
    c.put_fault.ensures
