use Rattle.meaning_bench.proofs.Settled.{is_settled_as, is_not_open, is_not_missing}
use Rattle.meaning_bench.proofs.is_outcome.Goals as goal

pub returns-in-Settled : goal.returns-in-Settled
returns-in-Settled c =
    rw c.in-Settled.is (is_settled_as c.in-Settled.settled.now c.args.outcome.now _
    c.is_same.ensures)

pub returns-in-Open : goal.returns-in-Open
returns-in-Open c = rw c.in-Open.is (is_not_open c.args.outcome.now)

pub returns-in-NoCell : goal.returns-in-NoCell
returns-in-NoCell c = rw c.in-NoCell.is (is_not_missing c.args.outcome.now)
