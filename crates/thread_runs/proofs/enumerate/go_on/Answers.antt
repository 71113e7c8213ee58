use Rattle.std.proofs.Common.{sym, ◌∙◌}
use Rattle.thread_runs.proofs.RunList.{label_as, plain_as}
use Rattle.thread_runs.proofs.enumerate.go_on.Goals as goal

pub returns-in_ok-go_over_all-in-Label : goal.returns-in_ok-go_over_all-in-Label
returns-in_ok-go_over_all-in-Label c =
    c.in_ok-go_over_all-in-Label.ensures {u = tt}
    ∙ sym (label_as c.args.values.now c.args.held.now c.args.beginnings.items c.args.line _
    c.in-Label.is)

pub returns-in_ok-go_over_all-in-Does : goal.returns-in_ok-go_over_all-in-Does
returns-in_ok-go_over_all-in-Does c =
    c.in_ok-go_over_all-in-Does.ensures {u = tt}
    ∙ sym (plain_as c.args.values.now c.args.held.now c.args.beginnings.items c.args.line _
    c.in-Does.is (sym c.is_load.ensures ∙ c.if-is_load.false))
