use Rattle.std.proofs.Common.{rules, ◌≡◌, ℕ, ◌∙◌, subst}
use Rattle.std.proofs.lemmas.Result.{on_ok_weaker}
use Rattle.litmus_tokens.specs.Numbers.{number_of as test_rule_number}
use Rattle.command_answers.specs.Files.{AddsFault}
use Rattle.line_answers.proofs.Results.{refused_text}
use Rattle.line_answers.proofs.report.put_refused.Goals as goal

pub returns : goal.returns
returns c =
    let first : c.number.result ≡ test_rule_number c.args.rule = search rules in
    let second : c.number-2.result ≡ test_rule_number c.args.rule = search rules in
    let told = subst (λ (n : ℕ). AddsFault c.args.report.now.faults.items c.put_fault.new.lines.items c.args.file.now.path.now c.args.file.now.text.items 76 n c.args.offset) first c.in_ok-put_fault.ensures in
    on_ok_weaker c.put_result.result
    (λ e. (
      refused_text c.args.lines c.args.report.now.text.items c.put_result.new.text.items
          c.args.file.now c.args.rule c.deref.result.now c.number-2.result c.args.offset
          c.refusal_of-refusal.result c.refusal_of-refusal.ensures (c.deref.ensures.value ∙ c.in_ok-rule.ensures) second e,
      told,
    ))
    c.put_result.ensures
