use Rattle.std.proofs.Common.{arith}
use Rattle.plain_faults.proofs.Applying.{filled, trial}
use Rattle.plain_faults.proofs.application.trial_arguments.Goals as goal

pub returns : goal.returns
returns c =
    trial c.args.index c.unknown.result c.unknown-2.result c.resize.new.self.items
    c.push.new.self.items c.unknown.ensures c.unknown-2.ensures
    (filled c.args.index _ c.unknown.result c.new-values.result.items c.resize.new.self.items
    c.new-values.ensures.items (omega (arith, c.new-values.ensures.len)) c.in_ok-resize.ensures.items)
    c.in_ok-push.ensures.items
