use Rattle.bit_rows.proofs.Columns.{taken_apart, put_together, made_relation}
use Rattle.bit_relations.proofs.Making.{united}
use Rattle.bit_relations.proofs.rel.Rel.union_with.Goals as goal

pub invariant_of-self : goal.invariant_of-self
invariant_of-self c =
    put_together (united (taken_apart _ _ _ c.self.invariant) (taken_apart _ _ _ c.other.invariant)
    (rw (← c.self.view_is, ← c.other.view_is) at c.requires)
    (record {
      few = c.end_of_high.ensures.few;
      none = c.end_of_high.ensures.none;
      all = c.end_of_high.ensures.all;
    }) c.join.ensures c.join-2.ensures)

pub returns : goal.returns
returns c =
    rw (← c.self.view_is, ← c.other.view_is) (made_relation (united
    (taken_apart _ _ _ c.self.invariant) (taken_apart _ _ _ c.other.invariant)
    (rw (← c.self.view_is, ← c.other.view_is) at c.requires)
    (record {
      few = c.end_of_high.ensures.few;
      none = c.end_of_high.ensures.none;
      all = c.end_of_high.ensures.all;
    }) c.join.ensures c.join-2.ensures))
