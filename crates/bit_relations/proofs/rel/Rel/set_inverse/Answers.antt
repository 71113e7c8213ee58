use Rattle.std.proofs.Common.{refl}
use Rattle.bit_rows.proofs.Columns.{taken_apart, emptied, columns_at, relation_at}
use Rattle.bit_relations.proofs.Making.{inverted}
use Rattle.bit_relations.proofs.rel.Rel.set_inverse.Goals as goal

pub invariant_of-self : goal.invariant_of-self
invariant_of-self c =
    columns_at (rw (← c.self.view_is) at c.clear.ensures.count) (inverted
    (emptied _ (taken_apart _ _ _ c.self.invariant)
    (rw (← c.self.view_is) at c.clear.ensures.count)
    (rw (← c.self.view_is) at c.clear.ensures.pairs))
    (taken_apart _ _ _ c.of.invariant) refl
    (record {
      few = c.end_of_high.ensures.few;
      none = c.end_of_high.ensures.none;
      all = c.end_of_high.ensures.all;
    }) c.in_low.ensures.cut c.in_high.ensures.cut
    c.invert.ensures c.invert-2.ensures)

pub returns : goal.returns
returns c =
    rw (← c.of.view_is) (relation_at (rw (← c.self.view_is) at c.clear.ensures.count)
    (inverted
    (emptied _ (taken_apart _ _ _ c.self.invariant)
    (rw (← c.self.view_is) at c.clear.ensures.count)
    (rw (← c.self.view_is) at c.clear.ensures.pairs))
    (taken_apart _ _ _ c.of.invariant) refl
    (record {
      few = c.end_of_high.ensures.few;
      none = c.end_of_high.ensures.none;
      all = c.end_of_high.ensures.all;
    }) c.in_low.ensures.cut c.in_high.ensures.cut
    c.invert.ensures c.invert-2.ensures))
