use Rattle.from_scratch.specs.Suites.{AreOutcomes}
use Rattle.from_scratch.proofs.Suiting.{each_more}
use Rattle.cut_spaces.proofs.cell.each_test.Goals as goal

pub loop-test-preserved : goal.loop-test-preserved
loop-test-preserved c = λ texts all.
    each_more (λ test row. AreOutcomes texts test row.items) c.args.tests.now c.loop-test.test-index
    c.test-item.result c.loop-test.rows.items c.push.new.self.items c.in_ok-eval_row.field-0
    c.loop-test-test.true c.test-item.is
    c.in_ok-push.ensures.items (c.in_ok-eval_row.ensures texts all)
    (c.loop-test.invariant texts all)
