use Rattle.std.proofs.Common.{rules, ℕ, List, [], refl, sym, subst}
use Rattle.std.proofs.lemmas.List.{append-nil}
use Rattle.std.proofs.lemmas.Result.{on_ok_weaker}
use Rattle.fault_texts.specs.Lines.{fault_lines}
use Rattle.fault_texts.specs.Words.{rule_words}
use Rattle.litmus_tokens.specs.Numbers.{number_of as test_rule_number}
use Rattle.outcome_lines.specs.Records.{Tested, Refused}
use Rattle.command_answers.proofs.Answering.{test_refused}
use Rattle.command_answers.specs.Answer.{IsTestRefused}
use Rattle.line_answers.specs.Results.{rule_text, refused_file, IsTestResult, IsRefusedResult}
use Rattle.line_answers.proofs.report.put_file.Goals as goal

pub returns-in-Ok : goal.returns-in-Ok
returns-in-Ok c =
    on_ok_weaker c.put_tested.result
    (λ h. record {
      given = record { result = Tested c.args.file.now.path.now c.in-Ok.test.name h.0; told = [] };
      given_is = IsTestResult c.in-Ok.test h.0 (search rules) h.1 refl refl;
      text = h.2;
      faults = sym (append-nil c.args.report.now.faults.items);
    }) c.put_tested.ensures

pub returns-in-Err-Refused : goal.returns-in-Err-Refused
returns-in-Err-Refused c =
    let rule = c.in-Err-Refused.rule in
    let offset = c.in-Err-Refused.offset in
    let file = c.args.file.now in
    let refused = subst (λ (l : List ℕ). IsTestRefused l rule offset) c.deref.ensures.value (test_refused c.deref.result.now c.in-Err-Refused.field-0 rule offset c.in-Err-Refused.field-0-is c.in-Err-Refused.ensures.only c.in-Err-Refused.ensures.fault) in
    on_ok_weaker c.put_refused.result
    (λ h. record {
      given = record {
        result = Refused (refused_file file (rule_text 76 (test_rule_number rule)) offset);
        told = fault_lines file.path.now file.text.items 76 (test_rule_number rule) (rule_words 76 (test_rule_number rule)) offset;
      };
      given_is = IsRefusedResult rule offset refused refl refl;
      text = h.0;
      faults = h.1;
    }) c.put_refused.ensures
