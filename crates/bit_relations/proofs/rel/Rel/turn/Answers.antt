use Rattle.bit_rows.proofs.Columns.{taken_apart, put_together, made_relation}
use Rattle.bit_relations.proofs.Making.{turned}
use Rattle.bit_relations.proofs.rel.Rel.turn.Goals as goal

pub invariant_of-self : goal.invariant_of-self
invariant_of-self c =
    put_together (turned _ _ (taken_apart _ _ _ c.self.invariant)
    (record {
      few = c.end_of_high.ensures.few;
      none = c.end_of_high.ensures.none;
      all = c.end_of_high.ensures.all;
    }) c.in_low.ensures.cut c.in_high.ensures.cut
    c.lowest_bits-low.ensures c.lowest_bits-high.ensures c.turn.ensures c.turn-2.ensures)

pub returns : goal.returns
returns c =
    rw (← c.self.view_is) (made_relation (turned _ _ (taken_apart _ _ _ c.self.invariant)
    (record {
      few = c.end_of_high.ensures.few;
      none = c.end_of_high.ensures.none;
      all = c.end_of_high.ensures.all;
    }) c.in_low.ensures.cut c.in_high.ensures.cut
    c.lowest_bits-low.ensures c.lowest_bits-high.ensures c.turn.ensures c.turn-2.ensures))
