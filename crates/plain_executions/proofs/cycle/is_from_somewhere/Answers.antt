use Rattle.std.proofs.Common.{map}
use Rattle.plain_runs.specs.Runs.{run_as}
use Rattle.plain_events.specs.Events.{event_as}
use Rattle.plain_executions.specs.Executions.{NeedOrReadsOf}
use Rattle.plain_executions.proofs.Indexing.{acyclic_answer}
use Rattle.plain_executions.proofs.cycle.is_from_somewhere.Goals as goal

pub returns : goal.returns
returns c =
    let R = NeedOrReadsOf (map run_as c.args.runs.now) (map event_as c.args.reads_from.now) in
    let nodes = map event_as c.args.nodes.now in
    acyclic_answer R nodes c.in_ok-pairs.pairs.items c.deref.result.now c.in_ok-is.is'
    c.in_ok-pairs.ensures c.requires.once c.requires.among c.deref.ensures.value c.in_ok-is.ensures
