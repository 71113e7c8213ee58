use Rattle.bit_rows.proofs.Columns.{taken_apart, emptied, columns_at, relation_at}
use Rattle.bit_relations.proofs.Making.{filled}
use Rattle.bit_relations.proofs.rel.Rel.set_product.Goals as goal

pub invariant_of-self : goal.invariant_of-self
invariant_of-self c =
    columns_at (rw (← c.self.view_is) at c.clear.ensures.count) (filled _ _ _ _ _ _
    (emptied _ (taken_apart _ _ _ c.self.invariant)
    (rw (← c.self.view_is) at c.clear.ensures.count)
    (rw (← c.self.view_is) at c.clear.ensures.pairs))
    (record {
      few = c.end_of_high.ensures.few;
      none = c.end_of_high.ensures.none;
      all = c.end_of_high.ensures.all;
    }) c.words-low.ensures.word
    c.words-right_low.ensures.word c.words-right_low.ensures.low
    (λ a h. rw (c.count-count.ensures.value) (c.words-low.ensures.within a h))
    (λ a h.
    rw (c.count-count.ensures.value, ← c.requires) (c.words-right_low.ensures.within a h))
    c.fill.ensures c.fill-2.ensures)

pub returns : goal.returns
returns c =
    rw (← c.count-count.ensures.value) (relation_at (rw (← c.self.view_is) at c.clear.ensures.count)
    (filled _ _ _ _ _ _
    (emptied _ (taken_apart _ _ _ c.self.invariant)
    (rw (← c.self.view_is) at c.clear.ensures.count)
    (rw (← c.self.view_is) at c.clear.ensures.pairs))
    (record {
      few = c.end_of_high.ensures.few;
      none = c.end_of_high.ensures.none;
      all = c.end_of_high.ensures.all;
    }) c.words-low.ensures.word
    c.words-right_low.ensures.word c.words-right_low.ensures.low
    (λ a h. rw (c.count-count.ensures.value) (c.words-low.ensures.within a h))
    (λ a h. rw (c.count-count.ensures.value, ← c.requires)
    (c.words-right_low.ensures.within a h)) c.fill.ensures c.fill-2.ensures))
