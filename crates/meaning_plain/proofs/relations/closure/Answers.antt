use Rattle.std.proofs.Common.{ℕ, List, sym, subst}
use Rattle.meaning.specs.Sets.{Identity, Transitive}
use Rattle.meaning_plain.specs.Lists.{SetOf, RelationOf, HasPairs}
use Rattle.meaning_plain.proofs.Operators.{closure_made}
use Rattle.meaning_plain.proofs.relations.closure.Goals as goal

pub returns : goal.returns
returns c =
    closure_made c.args.all.now c.args.pairs.now c.deref.result.now c.deref-2.result.now
    c.in_ok-whole.whole.items
    (subst (λ (l : List (ℕ × ℕ)). HasPairs (Identity (SetOf c.args.all.now)) l)
    (sym c.deref.ensures.value) c.in_ok-itself.ensures)
    (subst (λ (l : List (ℕ × ℕ)). HasPairs (Transitive (RelationOf c.args.pairs.now)) l)
    (sym c.deref-2.ensures.value) c.in_ok-paths.ensures) c.in_ok-whole.ensures
