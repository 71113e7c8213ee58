use Rattle.std.proofs.Common.{map}
use Rattle.plain_runs.specs.Runs.{run_as}
use Rattle.plain_events.specs.Events.{event_as}
use Rattle.plain_executions.specs.Executions.{AreRelated, NeedOrReadsOf}
use Rattle.std.proofs.lemmas.Bool.{iff_false}
use Rattle.meaning_plain.proofs.Growing.{grows_if, grows_unless}
use Rattle.plain_executions.proofs.Pairing.{related_at}
use Rattle.plain_executions.proofs.cycle.put_pair.Goals as goal

pub returns-then-not-is : goal.returns-then-not-is
returns-then-not-is c =
    let R = NeedOrReadsOf (map run_as c.args.runs.now) (map event_as c.args.reads_from.now) in
    let nodes = map event_as c.args.nodes.now in
    grows_unless (AreRelated R nodes c.args.pair.0 c.args.pair.1) c.args.pair c.args.pairs.now.items
    (λ is. iff_false c.in_ok-is.ensures c.if-not-is.true
    ((related_at event_as R c.args.nodes.now c.args.pair.0 c.args.pair.1 _ _ c.requires.from c.requires.to).1 is))

pub returns : goal.returns
returns c =
    let R = NeedOrReadsOf (map run_as c.args.runs.now) (map event_as c.args.reads_from.now) in
    let nodes = map event_as c.args.nodes.now in
    grows_if (AreRelated R nodes c.args.pair.0 c.args.pair.1) c.args.pair c.args.pairs.now.items
    c.add_pair.new.pairs.items
    ((related_at event_as R c.args.nodes.now c.args.pair.0 c.args.pair.1 _ _ c.requires.from c.requires.to).0
    (c.in_ok-is.ensures.0 c.if-not-is.false))
    c.in_ok-add_pair.ensures
