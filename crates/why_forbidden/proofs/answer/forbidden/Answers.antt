use Rattle.std.specs.Prelude.{slice_index_or}
use Rattle.std.proofs.lemmas.Option.{slice_get-get_or}
use Rattle.std.proofs.lemmas.Result.{IfOk-weaker}
use Rattle.why_forbidden.proofs.answer.forbidden.Goals as goal

pub returns : goal.returns
returns c =
    let checks = c.args.judged.checks.now in
    let index = c.args.refusal.now.index in
    let default = c.index-judged-refusal.result in
    IfOk-weaker c.reason_told.result _ _
    (λ r told. record {
      check = slice_index_or checks index default;
      here = slice_get-get_or checks index default c.requires.within;
      told = told;
    }) c.reason_told.ensures
