use Rattle.std.proofs.Common.{map}
use Rattle.plain_runs.specs.Runs.{instance_as}
use Rattle.plain_events.proofs.Doing.{mapped_at, instance_at}
use Rattle.plain_events.proofs.action.run_action.Goals as goal

pub returns : goal.returns
returns c =
    instance_at (map instance_as c.args.instances.now) c.args.index
    (instance_as c.index-instances-index.result) c.action_of.result
    (mapped_at instance_as c.args.instances.now c.args.index c.index-instances-index.result c.if-index-instances.false c.index-instances-index.is)
    c.action_of.ensures
