use Rattle.std.proofs.Common.{rules}
use Rattle.ppc_lowering.proofs.Starting.{files_more, files_none}
use Rattle.ppc_lowering.proofs.lowering.registers_of.Goals as goal

pub loop-entry-init : goal.loop-entry-init
loop-entry-init c = files_none c.args.locations.now c.args.threads _ c.in_ok-registers.ensures

pub loop-entry-preserved : goal.loop-entry-preserved
loop-entry-preserved c =
    files_more c.args.init.now c.loop-entry.entry-index c.entry-item.result c.args.locations.now
    c.args.threads _ _ c.loop-entry-test.true (search rules) c.loop-entry.invariant (search rules)
