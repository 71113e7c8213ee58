use Rattle.std.proofs.Common.{◌≡◌, ℕ, List, Contains, sym, subst}
use Rattle.meaning_plain.specs.Lists.{Grows}
use Rattle.meaning_plain.proofs.Growing.{grows_there, grows_push}
use Rattle.meaning_plain.proofs.sets.add_member.Goals as goal

pub returns-then-has_member : goal.returns-then-has_member
returns-then-has_member c =
    grows_there c.args.set.now.items c.args.event
    (subst (λ (l : List ℕ). Contains l c.args.event) c.deref.ensures.value
    (c.has_member.ensures.0 c.if-has_member.true))

pub returns : goal.returns
returns c =
    subst (λ (l : List ℕ). Grows (λ (x : ℕ). x ≡ c.args.event) c.args.set.now.items l)
    (sym c.in_ok-push.ensures.items) (grows_push c.args.set.now.items c.args.event)
