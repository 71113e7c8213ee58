use Rattle.bit_rows.proofs.Columns.{taken_apart, put_together, made_relation}
use Rattle.bit_relations.proofs.Making.{with_identity}
use Rattle.bit_relations.proofs.rel.Rel.add_identity.Goals as goal

pub invariant_of-self : goal.invariant_of-self
invariant_of-self c =
    put_together (with_identity (taken_apart _ _ _ c.self.invariant)
    (record {
      few = c.end_of_high.ensures.few;
      none = c.end_of_high.ensures.none;
      all = c.end_of_high.ensures.all;
    }) c.add_diagonal.ensures c.add_diagonal-2.ensures)

pub returns : goal.returns
returns c =
    rw (← c.self.view_is) (made_relation (with_identity (taken_apart _ _ _ c.self.invariant)
    (record {
      few = c.end_of_high.ensures.few;
      none = c.end_of_high.ensures.none;
      all = c.end_of_high.ensures.all;
    }) c.add_diagonal.ensures
    c.add_diagonal-2.ensures))
