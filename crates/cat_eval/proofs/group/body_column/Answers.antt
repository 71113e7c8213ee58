use Rattle.std.proofs.Common.{refl}
use Rattle.cat_eval.proofs.Bodies.{body_none}
use Rattle.cat_eval.proofs.group.body_column.Goals as goal

pub returns : goal.returns
returns c =
    let ready = rw c.deref.ensures.value at c.in_ok-keeper.ensures.ready in
    (c.in_ok-visit_runs.ensures (
      refl,
      refl,
      body_none c.args.named.now c.args.body.now c.args.inputs.now _
          c.column_for.ensures.kind c.column_for.ensures.empty ready
          c.in_ok-keeper.ensures.none,
    )).2.column
