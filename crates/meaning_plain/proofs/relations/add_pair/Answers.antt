use Rattle.std.proofs.Common.{◌≡◌, ℕ, List, Contains, sym, subst}
use Rattle.meaning_plain.specs.Lists.{Grows}
use Rattle.meaning_plain.proofs.Growing.{grows_there, grows_push}
use Rattle.meaning_plain.proofs.relations.add_pair.Goals as goal

pub returns-then-has_pair : goal.returns-then-has_pair
returns-then-has_pair c =
    grows_there c.args.pairs.now.items c.args.pair
    (subst (λ (l : List (ℕ × ℕ)). Contains l c.args.pair) c.deref.ensures.value
    (c.has_pair.ensures.0 c.if-has_pair.true))

pub returns : goal.returns
returns c =
    subst (λ (l : List (ℕ × ℕ)). Grows (λ (x : (ℕ × ℕ)). x ≡ c.args.pair) c.args.pairs.now.items l)
    (sym c.in_ok-push.ensures.items) (grows_push c.args.pairs.now.items c.args.pair)
