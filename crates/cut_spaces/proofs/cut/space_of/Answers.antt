use Rattle.std.proofs.Common.{inr}
use Rattle.std.proofs.lemmas.Result.{IfOk-weaker}
use Rattle.cut_spaces.specs.Spaces.{IsCutOf, IsEvaluable}
use Rattle.cut_spaces.proofs.cut.space_of.Goals as goal

pub returns-in-Some : goal.returns-in-Some
returns-in-Some c =
    let is = rw c.in-Some.is at c.in_ok-item.ensures in
    IfOk-weaker c.cut.result (IsCutOf c.in-Some.item.now c.args.parts)
    (IsEvaluable c.args.items.now c.args.parts)
    (λ s h. inr (c.in-Some.item.now, is.0, is.1, h)) c.cut.ensures
