use Rattle.std.proofs.Common.{◌≡◌, ℕ, List, IsTrue, sym, subst}
use Rattle.meaning_plain.specs.Lists.{Grows}
use Rattle.meaning_plain.proofs.Growing.{grows_push, grows_if, grows_unless}
use Rattle.plain_models.proofs.model.put_if.Goals as goal

pub returns-then-not-is : goal.returns-then-not-is
returns-then-not-is c =
    grows_unless (IsTrue c.args.is) c.args.index c.args.flags.now.items
    (λ h. let f = c.if-not-is.true in cc)

pub returns : goal.returns
returns c =
    subst (λ (l : List ℕ). Grows (λ (i : ℕ). (i ≡ c.args.index) × IsTrue c.args.is) c.args.flags.now.items l)
    (sym c.in_ok-push.ensures.items)
    (grows_if (IsTrue c.args.is) c.args.index c.args.flags.now.items _ c.if-not-is.false
    (grows_push c.args.flags.now.items c.args.index))
