use Rattle.std.proofs.Common.{rules, ◌≡◌}
use Rattle.bit_relations.proofs.Sets.{held_apart, held_empty, held_empty_back}
use Rattle.bit_relations.proofs.set.EventSet.is_empty.Goals as goal

pub returns-then-self-eq0 : goal.returns-then-self-eq0
returns-then-self-eq0 c = rw (← c.self.view_is) (
  (λ t.
      let e : c.self.inside.high ≡ 0 = search rules in
      held_empty (held_apart c.self.invariant) c.if-self-eq0.true e),
  (λ none.
      let e : c.self.inside.high ≡ 0 = (held_empty_back _ _ c.self.invariant.low_fits none).1 in
      search rules),
)

pub returns-else-self-eq0 : goal.returns-else-self-eq0
returns-else-self-eq0 c = rw (← c.self.view_is) (
  (λ t. let e : c.self.inside.low ≡ 0 = search rules in absurd (c.if-self-eq0.false e)),
  (λ none. absurd (c.if-self-eq0.false (held_empty_back _ _ c.self.invariant.low_fits none).0)),
)
