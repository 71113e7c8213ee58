use Rattle.std.proofs.Common.{refl, arith}
use Rattle.bit_rows.proofs.Columns.{taken_apart, emptied, columns_at, relation_at}
use Rattle.bit_relations.proofs.Making.{composed}
use Rattle.bit_relations.proofs.rel.Rel.set_composed.Goals as goal

pub invariant_of-self : goal.invariant_of-self
invariant_of-self c =
    columns_at (rw (← c.self.view_is) at c.clear.ensures.count) (composed
    (emptied _ (taken_apart _ _ _ c.self.invariant)
    (rw (← c.self.view_is) at c.clear.ensures.count)
    (rw (← c.self.view_is) at c.clear.ensures.pairs))
    (taken_apart _ _ _ c.left.invariant)
    (taken_apart _ _ _ c.right.invariant) refl
    (rw (← c.left.view_is, ← c.right.view_is) at c.requires) c.blocks_of.ensures.all
    (λ over.
    let all = c.blocks_of-2.ensures.all in
    let end = c.end_of_high.ensures.all over in omega arith) c.compose.ensures
    c.compose-2.ensures)

pub returns : goal.returns
returns c =
    rw (← c.left.view_is, ← c.right.view_is) (relation_at
    (rw (← c.self.view_is) at c.clear.ensures.count) (composed
    (emptied _ (taken_apart _ _ _ c.self.invariant)
    (rw (← c.self.view_is) at c.clear.ensures.count)
    (rw (← c.self.view_is) at c.clear.ensures.pairs))
    (taken_apart _ _ _ c.left.invariant)
    (taken_apart _ _ _ c.right.invariant) refl
    (rw (← c.left.view_is, ← c.right.view_is) at c.requires) c.blocks_of.ensures.all
    (λ over.
    let all = c.blocks_of-2.ensures.all in
    let end = c.end_of_high.ensures.all over in omega arith) c.compose.ensures
    c.compose-2.ensures))
