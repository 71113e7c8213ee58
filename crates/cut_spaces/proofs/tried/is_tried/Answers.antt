use Rattle.std.proofs.Common.{◌≡◌, ◌∙◌, IsTrue, vec_len, sym, rules}
use Rattle.std.proofs.lemmas.Result.{IfOk-weaker}
use Rattle.cut_spaces.specs.Rows.{RefusesMore, IsTried}
use Rattle.cut_spaces.proofs.Passing.{nothing}
use Rattle.cut_spaces.proofs.tried.is_tried.Goals as goal

pub returns-in-Check : goal.returns-in-Check
returns-in-Check c =
    let empty : vec_len c.args.item.now.inputs ≡ 0 = search (rules, c.is_empty.ensures, c.if-not-is_empty.false) in
    IfOk-weaker c.refuses.result (λ b. IsTrue b → RefusesMore c.in-Check.check)
    (λ b. IsTrue b → IsTried c.args.item.now)
    (λ b h yes. record {
      check = c.in-Check.check;
      role = c.in-Check.is;
      inputs = nothing c.args.item.now.inputs.items (sym c.args.item.now.inputs.ok.0 ∙ empty);
      refuses = h yes;
    }) c.refuses.ensures
