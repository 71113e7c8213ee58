use Rattle.std.proofs.lemmas.Bool.{iff_false}
use Rattle.plain_events.specs.Events.{event_as}
use Rattle.plain_executions.proofs.Depending.{no, yes}
use Rattle.plain_names.specs.Related.{IsFenceBetween}
use Rattle.plain_names.proofs.Relating.{one_there, none_later, none_of_all}
use Rattle.plain_names.proofs.pairs.has_fence_between.Goals as goal

pub returns-then-is : goal.returns-then-is
returns-then-is c =
    let P = IsFenceBetween c.args.kind (event_as c.args.first.now.event) (event_as c.args.second.now.event) in
    yes (one_there P c.args.seen.now c.loop-one.one-index _ c.loop-one-test.true
    (c.is_fence_between-is.ensures.0 c.if-is.true))

pub loop-one-preserved : goal.loop-one-preserved
loop-one-preserved c =
    let P = IsFenceBetween c.args.kind (event_as c.args.first.now.event) (event_as c.args.second.now.event) in
    none_later P c.args.seen.now c.loop-one.one-index _ c.loop-one-test.true
    (iff_false c.is_fence_between-is.ensures c.if-is.false) c.loop-one.invariant

pub returns : goal.returns
returns c =
    let P = IsFenceBetween c.args.kind (event_as c.args.first.now.event) (event_as c.args.second.now.event) in
    no (none_of_all P c.args.seen.now c.loop-one.one-index c.loop-one-test.false c.loop-one.invariant)
