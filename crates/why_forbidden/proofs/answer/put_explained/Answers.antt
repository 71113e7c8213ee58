use Rattle.std.proofs.Common.{List, ℕ, ap}
use Rattle.std.proofs.lemmas.Result.{on_ok_weaker}
use Rattle.why_text.specs.Findings.{findings_text}
use Rattle.why_forbidden.proofs.answer.put_explained.Goals as goal

pub returns : goal.returns
returns c =
    let findings = c.in_ok-findings.findings in
    let is = c.in_ok-evaluated.ensures in
    let seen = c.as_judged-judged.ensures in
    on_ok_weaker c.put_findings.result
    (λ e. record {
      more = findings_text c.args.asked.is_forbidden c.deref.result.now findings;
      said = record {
        found = c.in_ok-evaluated.evaluated.answers;
        columns = is.columns c.requires.sound;
        checks = c.in_ok-evaluated.evaluated.checks.items;
        each_check = is.each_check;
        all_checks = is.all_checks;
        values = c.as_judged-judged.result.values;
        bound = seen.bound;
        each_name = rw seen.predefined is.each_name;
        all_names = rw seen.predefined is.all_names;
        findings = findings;
        gathered = rw (seen.text, seen.items, seen.checks) at c.in_ok-findings.ensures;
        told =
            ap (λ (names : List (List ℕ)). findings_text c.args.asked.is_forbidden names findings)
            c.deref.ensures.value;
      };
      text = e;
    }) c.put_findings.ensures
