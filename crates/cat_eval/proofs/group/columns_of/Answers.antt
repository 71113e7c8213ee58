use Rattle.std.proofs.Common.{◌+◌, ◌∙◌, ap, arith, length-append, ◌∷◌, []}
use Rattle.cat_eval.proofs.Columns.{one_column_more}
use Rattle.cat_eval.proofs.group.columns_of.Goals as goal

pub loop-body-preserved : goal.loop-body-preserved
loop-body-preserved c =
    let before = c.loop-body.invariant in
    let cs = c.loop-body.columns.items in
    rw c.in_ok-push.ensures.items (
      length-append cs (c.column_for.result ∷ []) ∙ ap (λ n. n + 1) before.0,
      one_column_more c.args.bodies.now cs c.loop-body.body-index c.body-item.result
          c.column_for.result before.0 c.loop-body-test.true c.body-item.is
          c.column_for.ensures.kind c.column_for.ensures.empty before.1,
    )

pub returns : goal.returns
returns c =
    let before = c.loop-body.invariant in (
      omega (arith, before.0, c.loop-body-test.false, c.loop-body.auto.body-index-end),
      (λ j lt. before.1 j (omega (arith, lt, c.loop-body-test.false))),
    )
