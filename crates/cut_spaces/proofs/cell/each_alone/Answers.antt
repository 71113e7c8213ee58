use Rattle.std.proofs.Common.{◌≡◌, take, arith}
use Rattle.std.proofs.lemmas.List.{take_all}
use Rattle.from_scratch.specs.FromScratch.{IsFromScratch}
use Rattle.from_scratch.specs.Suites.{IsResolvedAs}
use Rattle.from_scratch.proofs.Suiting.{beside_more, long}
use Rattle.cut_spaces.proofs.cell.each_alone.Goals as goal

pub loop-model-preserved : goal.loop-model-preserved
loop-model-preserved c = λ texts all.
    beside_more (λ m r. IsResolvedAs m.now r) (λ m o. IsFromScratch c.args.test.now m.now o) texts
    c.args.models.now c.loop-model.model-index c.model-item.result c.loop-model.outcomes.items
    c.push.new.self.items c.in_ok-under_model.field-0 all c.loop-model-test.true
    c.model-item.is
    c.in_ok-push.ensures.items (λ text is. c.in_ok-under_model.ensures text.now is)
    (c.loop-model.invariant texts all)

pub returns : goal.returns
returns c = λ texts all.
    let same = long (λ m r. IsResolvedAs m.now r) texts c.args.models.now all in
    let whole : take c.loop-model.model-index texts ≡ texts = take_all c.loop-model.model-index texts (omega (arith, c.loop-model-test.false, same)) in
    rw whole at (c.loop-model.invariant texts all)
