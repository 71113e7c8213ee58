use Rattle.std.proofs.Common.{map}
use Rattle.plain_runs.specs.Runs.{run_as}
use Rattle.plain_events.specs.Events.{event_as}
use Rattle.plain_executions.specs.Executions.{AreRelated, NeedOrReadsOf}
use Rattle.plain_executions.proofs.Pairing.{pairs_more, pairs_all, related_below}
use Rattle.plain_executions.proofs.cycle.all_pairs.Goals as goal

pub loop-from-preserved : goal.loop-from-preserved
loop-from-preserved c =
    let R = NeedOrReadsOf (map run_as c.args.runs.now) (map event_as c.args.reads_from.now) in
    let nodes = map event_as c.args.nodes.now in
    pairs_more (AreRelated R nodes) c.loop-from.from c.loop-from.pairs.items
    c.put_pairs.new.pairs.items c.loop-from.invariant c.in_ok-put_pairs.ensures

pub returns : goal.returns
returns c =
    let R = NeedOrReadsOf (map run_as c.args.runs.now) (map event_as c.args.reads_from.now) in
    let nodes = map event_as c.args.nodes.now in
    pairs_all (AreRelated R nodes) c.loop-from.from c.loop-from.pairs.items
    (λ i j is. (related_below event_as R c.args.nodes.now c.loop-from.from c.loop-from-test.false i j is).0)
    c.loop-from.invariant
