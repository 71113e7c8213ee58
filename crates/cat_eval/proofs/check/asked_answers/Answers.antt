use Rattle.std.proofs.Common.{refl}
use Rattle.cat_eval.proofs.Asking.{asked_start}
use Rattle.cat_eval.proofs.check.asked_answers.Goals as goal

pub returns : goal.returns
returns c =
    let ready = rw c.deref.ensures.value at c.in_ok-keeper.ensures.ready in
    (c.in_ok-visit_runs.ensures (
      refl,
      refl,
      refl,
      asked_start c.args.named.now c.args.check.now c.args.inputs.now c.args.kept _
          c.in_ok-with_capacity.ensures.items ready
          c.in_ok-keeper.ensures.none,
    )).3.answers
