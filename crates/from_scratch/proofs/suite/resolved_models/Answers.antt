use Rattle.from_scratch.specs.Suites.{IsResolvedAs}
use Rattle.from_scratch.proofs.Suiting.{each_more}
use Rattle.from_scratch.proofs.suite.resolved_models.Goals as goal

pub loop-model-preserved : goal.loop-model-preserved
loop-model-preserved c =
    each_more (λ m r. IsResolvedAs m.now r) c.args.models.now c.loop-model.model-index
    c.model-item.result c.loop-model.all.items c.push.new.self.items c.in_ok-items_of.field-0
    c.loop-model-test.true c.model-item.is c.in_ok-push.ensures.items c.in_ok-items_of.ensures
    c.loop-model.invariant
