use Rattle.bit_rows.proofs.Columns.{taken_apart, emptied, columns_at, relation_at}
use Rattle.bit_relations.proofs.Making.{stored}
use Rattle.bit_relations.proofs.rel.Rel.read_from.Goals as goal

pub invariant_of-self : goal.invariant_of-self
invariant_of-self c =
    columns_at (rw (← c.self.view_is) at c.clear.ensures.count) (stored _ _ _ _
    (emptied _ (taken_apart _ _ _ c.self.invariant)
    (rw (← c.self.view_is) at c.clear.ensures.count)
    (rw (← c.self.view_is) at c.clear.ensures.pairs))
    (record {
      few = c.end_of_high.ensures.few;
      none = c.end_of_high.ensures.none;
      all = c.end_of_high.ensures.all;
    }) c.in_low.ensures.cut c.in_high.ensures.cut
    c.lowest_bits-low.ensures c.lowest_bits-high.ensures c.read.ensures c.read-2.ensures)

pub returns : goal.returns
returns c =
    relation_at (rw (← c.self.view_is) at c.clear.ensures.count) (stored _ _ _ _
    (emptied _ (taken_apart _ _ _ c.self.invariant)
    (rw (← c.self.view_is) at c.clear.ensures.count)
    (rw (← c.self.view_is) at c.clear.ensures.pairs))
    (record {
      few = c.end_of_high.ensures.few;
      none = c.end_of_high.ensures.none;
      all = c.end_of_high.ensures.all;
    }) c.in_low.ensures.cut c.in_high.ensures.cut
    c.lowest_bits-low.ensures c.lowest_bits-high.ensures c.read.ensures c.read-2.ensures)
