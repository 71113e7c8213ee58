use Rattle.std.proofs.Common.{refl, sym, subst}
use Rattle.cat_eval.specs.Keeping.{AreRight}
use Rattle.cat_eval.proofs.Bodies.{body_evaluated}
use Rattle.cat_eval.proofs.body_run.BodyRun.evaluate.Goals as goal

pub returns-clause-at : goal.returns-clause-at
returns-clause-at c = λ bases here given.
    let run = c.args.self.now in
    let body = run.body.now in
    let said = rw c.deref.ensures.value at c.run-self.ensures in
    body_evaluated c.args.named.now body run.inputs.now bases run _ c.args.candidate c.args.count
    here given refl
    (said given.ready (subst
    (AreRight body.code.steps.items c.args.named.now run.inputs.now run.keeper)
    (sym here) given.right))
