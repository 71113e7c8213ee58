use Rattle.std.proofs.Common.{arith}
use Rattle.std.proofs.lemmas.Grind.{common_steps}
use Rattle.outcome_states.proofs.Columns.{column_more, column_none}
use Rattle.outcome_states.proofs.final_states.kept_with_order.Goals as goal

pub loop-reads_from-preserved : goal.loop-reads_from-preserved
loop-reads_from-preserved c =
    let more = column_more c.args.read_choices c.loop-reads_from._reads_from c.args.orders c.args.order c.loop-reads_from.rest.now c.loop-reads_from-test.true in
    grind (arith, common_steps, more)

pub returns : goal.returns
returns c =
    let none = column_none c.args.read_choices c.loop-reads_from._reads_from c.args.orders c.args.order c.loop-reads_from.rest.now c.loop-reads_from-test.false in
    omega (arith, none)
