use Rattle.bit_rows.proofs.Columns.{taken_apart, put_together, made_relation}
use Rattle.bit_relations.proofs.Making.{reduced}
use Rattle.bit_relations.proofs.rel.Rel.minus_with.Goals as goal

pub invariant_of-self : goal.invariant_of-self
invariant_of-self c =
    put_together (reduced (taken_apart _ _ _ c.self.invariant) (taken_apart _ _ _ c.other.invariant)
    (record {
      few = c.end_of_high.ensures.few;
      none = c.end_of_high.ensures.none;
      all = c.end_of_high.ensures.all;
    }) c.drop_bits.ensures c.drop_bits-2.ensures)

pub returns : goal.returns
returns c =
    rw (← c.self.view_is, ← c.other.view_is) (made_relation (reduced
    (taken_apart _ _ _ c.self.invariant) (taken_apart _ _ _ c.other.invariant)
    (record {
      few = c.end_of_high.ensures.few;
      none = c.end_of_high.ensures.none;
      all = c.end_of_high.ensures.all;
    }) c.drop_bits.ensures c.drop_bits-2.ensures))
