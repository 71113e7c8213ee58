use Rattle.std.proofs.Common.{List, subst, arith}
use Rattle.bench_texts.specs.declared.model.NamedModel.{NamedModel}
use Rattle.bench_edits.specs.Edited.{AreModelsMade}
use Rattle.bench_edits.proofs.Making.{rows_more, taken_all}
use Rattle.bench_edits.proofs.models.model_rows.Goals as goal

pub loop-index-preserved : goal.loop-index-preserved
loop-index-preserved c =
    rw c.in_ok-push.ensures.items
    (rows_more c.args.fresh c.args.before.now c.args.models.now c.loop-index.rows.items
    c.loop-index.index c.index-models-index.result c.made_row.result c.loop-index.invariant
    (omega arith) c.index-models-index.is
    (rw c.model_before.ensures at c.made_row.ensures))

pub returns : goal.returns
returns c =
    subst
    (λ (l : List NamedModel).
    AreModelsMade c.args.fresh c.args.before.now l c.loop-index.rows.items)
    (taken_all c.args.models.now c.loop-index.index (omega arith)) c.loop-index.invariant
