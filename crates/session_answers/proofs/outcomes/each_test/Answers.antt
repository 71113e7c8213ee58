use Rattle.session_answers.specs.Rows.{HasOutcomes}
use Rattle.from_scratch.proofs.Suiting.{each_more}
use Rattle.session_answers.proofs.outcomes.each_test.Goals as goal

pub loop-test-preserved : goal.loop-test-preserved
loop-test-preserved g c = λ texts all.
    each_more (HasOutcomes texts) c.args.tests.now c.loop-test.test-index c.test-item.result
    c.loop-test.rows.items c.push.new.self.items c.in_ok-outcomes_of.field-0
    c.loop-test-test.true c.test-item.is c.in_ok-push.ensures.items
    (c.in_ok-outcomes_of.ensures texts all) (c.loop-test.invariant texts all)
