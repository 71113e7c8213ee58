use Rattle.std.proofs.Common.{rules, ℕ, List, subst}
use Rattle.command_answers.proofs.Answering.{model_refused}
use Rattle.command_answers.proofs.Telling.{fault_told_of}
use Rattle.command_answers.specs.Answer.{IsModelRefused}
use Rattle.command_answers.specs.Told.{IsUnread}
use Rattle.command_answers.proofs.told.model_fault.Goals as goal

pub returns-in-Ok : goal.returns-in-Ok
returns-in-Ok c =
    fault_told_of c.model_fault_lines.result c.args.file.now c.in-Ok.model c.deref.result.now
    c.as_bytes.result.now c.deref-in-Ok.result.now (search rules) (search rules) (search rules)
    (search rules) c.model_fault_lines.ensures

pub returns-in-Err-Refused : goal.returns-in-Err-Refused
returns-in-Err-Refused c =
    let refused = subst (λ (l : List ℕ). IsModelRefused l c.in-Err-Refused.field-0-0 c.in-Err-Refused.field-0-1) c.deref.ensures.value (model_refused c.deref.result.now c.in-Err-Refused.field-0 c.in-Err-Refused.field-0-0 c.in-Err-Refused.field-0-1 c.in-Err-Refused.field-0-is c.in-Err-Refused.ensures.only c.in-Err-Refused.ensures.fault) in
    IsUnread c.in-Err-Refused.field-0-0 c.in-Err-Refused.field-0-1 refused (search rules)
