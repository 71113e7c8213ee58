use Rattle.std.proofs.Common.{rules}
use Rattle.ppc_lowering.proofs.Starting.{initial_proper}
use Rattle.ppc_lowering.proofs.lowering.program.Goals as goal

pub returns-clause-proper : goal.returns-clause-proper
returns-clause-proper c =
    initial_proper c.args.test.now.init.items c.in_ok-locations.locations.items
    c.in_ok-initial.initial.items (search rules)
