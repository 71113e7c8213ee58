use Rattle.std.proofs.Common.{rules, ℕ, List, refl, subst}
use Rattle.std.proofs.lemmas.Result.{on_ok_weaker}
use Rattle.command_answers.proofs.Answering.{test_refused}
use Rattle.command_answers.proofs.Reports.{test_fault_added}
use Rattle.command_answers.specs.Answer.{IsTestRefused}
use Rattle.command_answers.specs.Reports.{IsTestAdded}
use Rattle.command_answers.proofs.reading.read_test_file.Goals as goal

pub returns-in-Ok : goal.returns-in-Ok
returns-in-Ok c =
    on_ok_weaker c.push_test.result (λ e. IsTestAdded c.in-Ok.test (search rules) e refl)
    c.push_test.ensures

pub returns-in-Err-Refused : goal.returns-in-Err-Refused
returns-in-Err-Refused c =
    let refused = subst (λ (l : List ℕ). IsTestRefused l c.in-Err-Refused.rule c.in-Err-Refused.offset) c.deref.ensures.value (test_refused c.deref.result.now c.in-Err-Refused.field-0 c.in-Err-Refused.rule c.in-Err-Refused.offset c.in-Err-Refused.field-0-is c.in-Err-Refused.ensures.only c.in-Err-Refused.ensures.fault) in
    on_ok_weaker c.put_fault.result
    (λ e. test_fault_added c.args.file.now c.args.read.now.tests.items
    c.args.read.now.faults.items c.put_fault.new.lines.items c.in-Err-Refused.rule
    c.number.result c.in-Err-Refused.offset _ refused (search rules) (search rules) e)
    c.put_fault.ensures
