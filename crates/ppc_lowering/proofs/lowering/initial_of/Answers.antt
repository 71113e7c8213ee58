use Rattle.std.proofs.Common.{rules}
use Rattle.ppc_lowering.proofs.Starting.{initial_more}
use Rattle.ppc_lowering.proofs.lowering.initial_of.Goals as goal

pub loop-entry-preserved : goal.loop-entry-preserved
loop-entry-preserved c =
    initial_more c.args.init.now c.loop-entry.entry-index c.entry-item.result c.args.locations.now _
    _ c.loop-entry-test.true (search rules) c.requires c.loop-entry.invariant (search rules)
