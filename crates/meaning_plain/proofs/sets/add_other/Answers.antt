use Rattle.std.proofs.Common.{◌≡◌, Contains, true}
use Rattle.meaning_plain.proofs.Growing.{grows_if, grows_unless}
use Rattle.meaning_plain.proofs.sets.add_other.Goals as goal

pub returns-then-has_member : goal.returns-then-has_member
returns-then-has_member c =
    grows_unless (Contains c.args.others.now c.args.event → ⊥) c.args.event
    c.args.set.now.items (λ lacks. lacks (c.has_member.ensures.0 c.if-has_member.true))

pub returns : goal.returns
returns c =
    grows_if (Contains c.args.others.now c.args.event → ⊥) c.args.event c.args.set.now.items _
    (λ is.
    let t : c.has_member.result ≡ true = c.has_member.ensures.1 is in
    let f = c.if-has_member.false in cc)
    c.in_ok-add_member.ensures
