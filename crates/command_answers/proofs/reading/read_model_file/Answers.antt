use Rattle.std.proofs.Common.{rules, ℕ, List, refl, subst}
use Rattle.std.proofs.lemmas.Result.{on_ok_weaker}
use Rattle.command_answers.proofs.Answering.{model_refused}
use Rattle.command_answers.proofs.Reports.{model_fault_added}
use Rattle.command_answers.specs.Answer.{IsModelRefused}
use Rattle.command_answers.specs.Files.{model_stem}
use Rattle.command_answers.specs.Reports.{IsModelAdded}
use Rattle.command_answers.proofs.reading.read_model_file.Goals as goal

pub returns-in-Ok : goal.returns-in-Ok
returns-in-Ok c =
    on_ok_weaker c.push_model.result
    (λ e. IsModelAdded
    (record { name = model_stem c.args.file.now.path.now; model = c.in-Ok.model }) refl
    (search rules) e refl) c.push_model.ensures

pub returns-in-Err-Refused : goal.returns-in-Err-Refused
returns-in-Err-Refused c =
    let refused = subst (λ (l : List ℕ). IsModelRefused l c.in-Err-Refused.rule c.in-Err-Refused.offset) c.deref.ensures.value (model_refused c.deref.result.now c.in-Err-Refused.field-0 c.in-Err-Refused.rule c.in-Err-Refused.offset c.in-Err-Refused.field-0-is c.in-Err-Refused.ensures.only c.in-Err-Refused.ensures.fault) in
    on_ok_weaker c.put_fault.result
    (λ e. model_fault_added c.args.file.now c.args.read.now.models.items
    c.args.read.now.faults.items c.put_fault.new.lines.items c.in-Err-Refused.rule
    c.number.result c.in-Err-Refused.offset _ refused (search rules) (search rules) e)
    c.put_fault.ensures
