use Rattle.plain_events.specs.Events.{event_as, action_as}
use Rattle.plain_names.specs.declared.seen.Seen.{Seen}
use Rattle.plain_names.specs.Members.{IsMemberBy}
use Rattle.plain_names.proofs.Belonging.{members_more, members_all}
use Rattle.plain_names.proofs.sets.members_by.Goals as goal

pub loop-index-preserved : goal.loop-index-preserved
loop-index-preserved c =
    members_more (λ (s : Seen). IsMemberBy c.args.name (event_as s.event) (action_as s.action))
    c.args.seen.now c.loop-index.index _ c.loop-index.members.items c.put_member.new.members.items
    c.loop-index-test.true c.loop-index.invariant c.in_ok-put_member.ensures

pub returns : goal.returns
returns c =
    members_all (λ (s : Seen). IsMemberBy c.args.name (event_as s.event) (action_as s.action))
    c.args.seen.now c.loop-index.index c.loop-index.members.items c.loop-index-test.false
    c.loop-index.invariant
