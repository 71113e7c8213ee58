use Rattle.std.proofs.Common.{map}
use Rattle.plain_runs.specs.Runs.{run_as}
use Rattle.plain_events.specs.Events.{of_runs}
use Rattle.plain_executions.proofs.Depending.{dependent_as}
use Rattle.plain_executions.proofs.dependent.is_dependent.Goals as goal

pub returns-in_ok-found-in-Does-second : goal.returns-in_ok-found-in-Does-second
returns-in_ok-found-in-Does-second c =
    dependent_as c.args.kind (of_runs (map run_as c.args.runs.now)) c.args.first.now
    c.args.second.now c.in-Does.u c.in-Does.i c.in-Does-second.v c.in-Does-second.j
    c.in_ok-found-in-Does-second.found c.in-Does.is c.in-Does-second.is
    c.in_ok-found-in-Does-second.ensures
