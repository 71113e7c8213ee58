use Rattle.std.proofs.Common.{◌∙◌, ap, inl, inr}
use Rattle.std.specs.Prelude.{codes}
use Rattle.std.proofs.lemmas.Result.{on_ok_weaker}
use Rattle.ppc_lowering.specs.Numbers as faults
use Rattle.why_forbidden.specs.Whys.{refusal_text}
use Rattle.why_forbidden.proofs.Sound.{few_candidates}
use Rattle.why_forbidden.proofs.answer.put_over_candidates.Goals as goal

pub put_explained-requires-clause-few : goal.put_explained-requires-clause-few
put_explained-requires-clause-few c =
    few_candidates c.args.test.now c.in-Ok.space c.in-Ok.ensures.executions

pub returns-in-Ok : goal.returns-in-Ok
returns-in-Ok c =
    on_ok_weaker c.put_explained.result
    (λ g. record {
      more = g.more;
      said = inl (c.in-Ok.space, c.in-Ok.ensures.executions, g.said);
      text = g.text;
    }) c.put_explained.ensures

pub returns-in-Err-Refused : goal.returns-in-Err-Refused
returns-in-Err-Refused c =
    let letter = codes "E" in
    let number = c.number.ensures ∙ ap faults.number c.in-Err-Refused.refusal-is in
    on_ok_weaker c.put_refused.result
    (λ e. record {
      more = refusal_text letter c.number.result;
      said =
          inr (
            c.in-Err-Refused.refusal,
            rw c.in-Err-Refused.field-0-is at c.in-Err-Refused.ensures.refused,
            ap (refusal_text letter) number,
          );
      text = e;
    }) c.put_refused.ensures
