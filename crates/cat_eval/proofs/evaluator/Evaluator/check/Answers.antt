use Rattle.std.proofs.Common.{List, Bool, sym, subst}
use Rattle.std.proofs.lemmas.Result.{IfOk-weaker}
use Rattle.candidate_spaces.specs.Space.{candidates_in}
use Rattle.cat_machine.specs.Values.{AreAnswers}
use Rattle.cat_eval.proofs.Asked.{where_all}
use Rattle.cat_eval.proofs.evaluator.Evaluator.check.Goals as goal

pub returns-in-Check-clause-answers : goal.returns-in-Check-clause-answers
returns-in-Check-clause-answers c =
    let check = c.in-Check.check in
    let inputs = c.args.inputs.now in
    let candidates = candidates_in c.args.space.now.combinations.items in
    rw c.in-Check.is (IfOk-weaker c.ask.result _ _
    (λ v (all, are, same). subst (λ (xs : List Bool). AreAnswers check inputs candidates xs)
    (sym (where_all all v.items same)) are)
    (c.ask.ensures.answers c.in-Check.is))
