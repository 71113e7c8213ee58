use Rattle.std.proofs.Common.{map}
use Rattle.plain_runs.specs.Runs.{run_as}
use Rattle.plain_events.specs.Events.{event_as}
use Rattle.plain_executions.specs.Executions.{AreRelated, NeedOrReadsOf}
use Rattle.plain_executions.proofs.Pairing.{row_more, row_all, related_below}
use Rattle.plain_executions.proofs.cycle.put_pairs.Goals as goal

pub loop-to-preserved : goal.loop-to-preserved
loop-to-preserved c =
    let R = NeedOrReadsOf (map run_as c.args.runs.now) (map event_as c.args.reads_from.now) in
    let nodes = map event_as c.args.nodes.now in
    row_more (AreRelated R nodes) c.args.from c.loop-to.to c.args.pairs.now.items
    c.loop-to.pairs.items c.put_pair.new.pairs.items c.loop-to.invariant c.in_ok-put_pair.ensures

pub returns : goal.returns
returns c =
    let R = NeedOrReadsOf (map run_as c.args.runs.now) (map event_as c.args.reads_from.now) in
    let nodes = map event_as c.args.nodes.now in
    row_all (AreRelated R nodes) c.args.from c.loop-to.to c.args.pairs.now.items
    c.loop-to.pairs.items
    (λ k is. (related_below event_as R c.args.nodes.now c.loop-to.to c.loop-to-test.false c.args.from k is).1)
    c.loop-to.invariant
