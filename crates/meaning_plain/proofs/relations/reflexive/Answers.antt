use Rattle.std.proofs.Common.{ℕ, List, sym, subst}
use Rattle.meaning.specs.Sets.{Identity}
use Rattle.meaning_plain.specs.Lists.{SetOf, HasPairs}
use Rattle.meaning_plain.proofs.Operators.{reflexive_made}
use Rattle.meaning_plain.proofs.relations.reflexive.Goals as goal

pub returns : goal.returns
returns c =
    reflexive_made c.args.all.now c.args.pairs.now c.deref.result.now c.in_ok-whole.whole.items
    (subst (λ (l : List (ℕ × ℕ)). HasPairs (Identity (SetOf c.args.all.now)) l)
    (sym c.deref.ensures.value) c.in_ok-itself.ensures) c.in_ok-whole.ensures
