use Rattle.std.proofs.Common.{◌≡◌, Contains, true}
use Rattle.meaning_plain.proofs.Growing.{grows_if, grows_unless}
use Rattle.meaning_plain.proofs.sets.add_common.Goals as goal

pub returns-then-not-has_member : goal.returns-then-not-has_member
returns-then-not-has_member c =
    grows_unless (Contains c.args.others.now c.args.event) c.args.event c.args.set.now.items
    (λ is.
    let t : c.has_member.result ≡ true = c.has_member.ensures.1 is in
    let f = c.if-not-has_member.true in cc)

pub returns : goal.returns
returns c =
    grows_if (Contains c.args.others.now c.args.event) c.args.event c.args.set.now.items _
    (c.has_member.ensures.0 c.if-not-has_member.false) c.in_ok-add_member.ensures
