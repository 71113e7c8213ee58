use Rattle.std.proofs.Common.{◌<◌, length, arith}
use Rattle.cat_eval.proofs.group.GroupRun.solve.Goals as goal

pub returns-clause-added : goal.returns-clause-added
returns-clause-added c = λ j lt inside col.
    let room : j < length c.values.result.now = rw c.values.ensures (omega (arith, c.solve.ensures.long, lt)) in
    rw c.values.ensures at (c.in_ok-put_all.ensures.added j room inside col)

pub returns-clause-least : goal.returns-clause-least
returns-clause-least c = λ long trees codes fit. c.in_ok-solve.ensures.least trees codes fit long
