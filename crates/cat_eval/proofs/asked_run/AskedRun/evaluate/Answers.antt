use Rattle.std.proofs.Common.{refl, sym, subst}
use Rattle.cat_eval.specs.Keeping.{AreRight}
use Rattle.cat_eval.proofs.Asking.{asked_evaluated}
use Rattle.cat_eval.proofs.asked_run.AskedRun.evaluate.Goals as goal

pub returns-clause-at : goal.returns-clause-at
returns-clause-at c = λ bases here given.
    let run = c.args.self.now in
    let check = run.check.now in
    let named = c.args.named.now in
    let said = rw c.deref.ensures.value at c.run-self.ensures in
    let ran = said given.ready (subst (AreRight check.code.steps.items named run.inputs.now run.keeper) (sym here) given.right) in
    asked_evaluated named check run.inputs.now run.kept bases run _ c.run-self.new.self
    c.args.candidate c.args.count c.is_as_asked-met.result here given refl ran
    c.is_as_asked-met.ensures.fixed refl c.is_as_asked-met.ensures.set
    c.is_as_asked-met.ensures.relation
