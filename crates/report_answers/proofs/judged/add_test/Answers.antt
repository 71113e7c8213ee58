use Rattle.std.proofs.Common.{rules, ℕ, List, refl, subst}
use Rattle.std.proofs.lemmas.Result.{on_ok_weaker}
use Rattle.litmus_tokens.specs.Numbers.{number_of as test_rule_number}
use Rattle.command_answers.proofs.Answering.{test_refused}
use Rattle.command_answers.specs.Answer.{IsTestRefused}
use Rattle.report_answers.specs.Known.{IsUnknownTest}
use Rattle.report_answers.proofs.Known.{told_at}
use Rattle.report_answers.proofs.judged.add_test.Goals as goal

pub returns-in-Ok : goal.returns-in-Ok
returns-in-Ok c = c.add_judged.ensures c.args.faults.now.items

pub returns-in-Err-Refused : goal.returns-in-Err-Refused
returns-in-Err-Refused c =
    let refused = subst (λ (l : List ℕ). IsTestRefused l c.in-Err-Refused.rule c.in-Err-Refused.offset) c.deref.ensures.value (test_refused c.deref.result.now c.in-Err-Refused.field-0 c.in-Err-Refused.rule c.in-Err-Refused.offset c.in-Err-Refused.field-0-is c.in-Err-Refused.ensures.only c.in-Err-Refused.ensures.fault) in
    on_ok_weaker c.put_fault.result
    (λ e. IsUnknownTest c.in-Err-Refused.rule c.in-Err-Refused.offset refused refl refl
    (told_at c.args.faults.now.items c.put_fault.new.lines.items c.args.file.now.path.now
    c.args.file.now.text.items 76 c.number.result _ (test_rule_number c.in-Err-Refused.rule)
    c.in-Err-Refused.offset (search rules) (search rules) e))
    c.put_fault.ensures
