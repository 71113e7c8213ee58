use Rattle.std.proofs.Common.{List, map, take, subst, arith}
use Rattle.bench_texts.specs.declared.model.NamedModel.{NamedModel}
use Rattle.bench_parts.specs.Items.{AreListsOf}
use Rattle.bench_edits.specs.Readings.{named_text, all_facts}
use Rattle.bench_edits.proofs.Making.{facts_more, taken_all}
use Rattle.bench_edits.proofs.models.model_items.Goals as goal

pub loop-model-init : goal.loop-model-init
loop-model-init c =
    rw (c.new-lists.ensures.rows, c.new-lists.ensures.roles, c.new-lists.ensures.kinds) tt

pub loop-model-preserved : goal.loop-model-preserved
loop-model-preserved c =
    rw (facts_more c.args.models.now c.loop-model.model-index c.model-item.result (omega arith)
    c.model-item.is)
    (c.in_ok-add_items.ensures (named_text c.args.before.now)
    (all_facts (map (λ m. m.now) (take c.loop-model.model-index c.args.models.now)))
    c.in_ok-said.ensures c.loop-model.invariant)

pub returns : goal.returns
returns c =
    subst
    (λ (l : List NamedModel). AreListsOf c.args.fresh c.args.parts.now
    (named_text c.args.before.now) (all_facts l) c.loop-model.lists)
    (taken_all c.args.models.now c.loop-model.model-index (omega arith)) c.loop-model.invariant
