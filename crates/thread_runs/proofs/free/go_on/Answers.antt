use Rattle.std.proofs.Common.{sym, ◌∙◌}
use Rattle.thread_runs.proofs.FreeLines.{label_on, plain_on}
use Rattle.thread_runs.proofs.free.go_on.Goals as goal

pub returns-in-Label : goal.returns-in-Label
returns-in-Label c =
    label_on c.args.values.now c.args.on c.args.there c.args.walks.items c.args.line _ _
    c.in-Label.is c.go_over_all.ensures

pub returns-else-is_branch : goal.returns-else-is_branch
returns-else-is_branch c =
    plain_on c.args.values.now c.args.on c.args.there c.args.walks.items c.args.line _ _
    c.in-Does.is (sym c.is_load.ensures ∙ c.if-is_load.false)
    (sym c.is_branch.ensures ∙ c.if-is_branch.false) c.go_over_all-in-Does.ensures
