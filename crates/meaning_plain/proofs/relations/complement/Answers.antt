use Rattle.std.proofs.Common.{ℕ, List, sym, subst}
use Rattle.meaning.specs.Sets.{Product}
use Rattle.meaning_plain.specs.Lists.{SetOf, HasPairs}
use Rattle.meaning_plain.proofs.Operators.{complement_made}
use Rattle.meaning_plain.proofs.relations.complement.Goals as goal

pub returns : goal.returns
returns c =
    complement_made c.args.all.now c.args.pairs.now c.deref.result.now c.in_ok-rest.rest.items
    (subst
    (λ (l : List (ℕ × ℕ)). HasPairs (Product (SetOf c.args.all.now) (SetOf c.args.all.now)) l)
    (sym c.deref.ensures.value) c.in_ok-whole.ensures) c.in_ok-rest.ensures
