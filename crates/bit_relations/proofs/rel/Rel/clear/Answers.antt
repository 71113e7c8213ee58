use Rattle.bit_rows.proofs.Columns.{taken_apart, put_together, made_relation}
use Rattle.bit_relations.proofs.Making.{cleared}
use Rattle.bit_relations.proofs.rel.Rel.clear.Goals as goal

pub invariant_of-self : goal.invariant_of-self
invariant_of-self c =
    put_together (cleared _ c.requires (taken_apart _ _ _ c.self.invariant)
    (record {
      few = c.end_of_high.ensures.few;
      none = c.end_of_high.ensures.none;
      all = c.end_of_high.ensures.all;
    }) c.clear.ensures c.clear-2.ensures)

pub returns : goal.returns
returns c =
    made_relation ((cleared _ c.requires (taken_apart _ _ _ c.self.invariant)
    (record {
      few = c.end_of_high.ensures.few;
      none = c.end_of_high.ensures.none;
      all = c.end_of_high.ensures.all;
    }) c.clear.ensures c.clear-2.ensures))
