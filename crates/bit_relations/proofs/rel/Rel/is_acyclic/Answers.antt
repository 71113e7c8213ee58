use Rattle.bit_rows.proofs.Closing.{one_word, low_within, Plus-map}
use Rattle.bit_relations.proofs.rel.Rel.is_acyclic.Goals as goal

pub is_low_acyclic-requires-clause-within : goal.is_low_acyclic-requires-clause-within
is_low_acyclic-requires-clause-within c = low_within _ _ _ c.if-count-le64.true c.self.invariant

pub returns-then-count-le64 : goal.returns-then-count-le64
returns-then-count-le64 c =
    let same = one_word _ _ _ c.if-count-le64.true c.self.invariant in
    rw (← c.self.view_is) (
      (λ t a p. c.is_low_acyclic.ensures.0 t a (Plus-map _ _ (λ x y r. (same x y).1 r) a a p)),
      (λ none. c.is_low_acyclic.ensures.1 (λ a p.
          none a (Plus-map _ _ (λ x y r. (same x y).0 r) a a p))),
    )

pub returns-else-count-le64 : goal.returns-else-count-le64
returns-else-count-le64 c =
    let pairs = c.plus.ensures.pairs in (
      (λ t a p. c.is_irreflexive.ensures.0 t a ((pairs a a).1 p)),
      (λ none. c.is_irreflexive.ensures.1 (λ a h. none a ((pairs a a).0 h))),
    )
