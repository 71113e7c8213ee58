use Rattle.std.proofs.Common.{ℕ, List, Contains, subst}
use Rattle.plain_models.proofs.Stepping.{extends_there, extends_push}
use Rattle.plain_models.proofs.group.put_pair.Goals as goal

pub returns-then-has_pair : goal.returns-then-has_pair
returns-then-has_pair c =
    extends_there c.args.pairs.now.items c.args.pair
    (subst (λ (l : List (ℕ × ℕ)). Contains l c.args.pair) c.deref.ensures.value
    (c.has_pair.ensures.0 c.if-has_pair.true))

pub returns : goal.returns
returns c =
    extends_push c.args.pairs.now.items c.push.new.self.items c.args.pair c.in_ok-push.ensures.items
