use Rattle.std.proofs.Common.{◌≡◌, ℕ, List, sym, subst}
use Rattle.std.proofs.lemmas.Bool.{iff_false}
use Rattle.meaning_plain.specs.Lists.{Grows}
use Rattle.meaning_plain.proofs.Growing.{grows_if, grows_unless, grows_push}
use Rattle.plain_events.specs.Events.{event_as, action_as}
use Rattle.plain_names.specs.Members.{IsMemberBy}
use Rattle.plain_names.proofs.sets.put_member.Goals as goal

pub returns-then-not-is : goal.returns-then-not-is
returns-then-not-is c =
    grows_unless (IsMemberBy c.args.name (event_as c.args.seen.now.event) (action_as c.args.seen.now.action))
    c.args.index c.args.members.now.items (iff_false c.is_member-is.ensures c.if-not-is.true)

pub returns : goal.returns
returns c =
    grows_if (IsMemberBy c.args.name (event_as c.args.seen.now.event) (action_as c.args.seen.now.action))
    c.args.index c.args.members.now.items c.push.new.self.items
    (c.is_member-is.ensures.0 c.if-not-is.false)
    (subst (λ (l : List ℕ). Grows (λ n. n ≡ c.args.index) c.args.members.now.items l)
    (sym c.in_ok-push.ensures.items) (grows_push c.args.members.now.items c.args.index))
