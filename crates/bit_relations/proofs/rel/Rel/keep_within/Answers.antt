use Rattle.bit_rows.proofs.Columns.{taken_apart, put_together, made_relation}
use Rattle.bit_relations.proofs.Making.{kept}
use Rattle.bit_relations.proofs.rel.Rel.keep_within.Goals as goal

pub invariant_of-self : goal.invariant_of-self
invariant_of-self c =
    put_together (kept _ _ _ (taken_apart _ _ _ c.self.invariant)
    (record {
      few = c.end_of_high.ensures.few;
      none = c.end_of_high.ensures.none;
      all = c.end_of_high.ensures.all;
    }) c.words-low.ensures.word c.words-low.ensures.low
    c.keep.ensures c.keep-2.ensures)

pub returns : goal.returns
returns c =
    rw (← c.self.view_is) (made_relation (kept _ _ _ (taken_apart _ _ _ c.self.invariant)
    (record {
      few = c.end_of_high.ensures.few;
      none = c.end_of_high.ensures.none;
      all = c.end_of_high.ensures.all;
    }) c.words-low.ensures.word
    c.words-low.ensures.low c.keep.ensures c.keep-2.ensures))
