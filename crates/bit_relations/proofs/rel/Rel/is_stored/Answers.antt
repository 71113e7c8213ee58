use Rattle.std.proofs.Common.{◌≡◌, true, false}
use Rattle.bit_relations.proofs.Packing.{are_stored, stored_low, stored_high}
use Rattle.bit_relations.proofs.rel.Rel.is_stored.Goals as goal

pub returns-then-are_at : goal.returns-then-are_at
returns-then-are_at c =
    rw (← c.self.view_is) (
      (λ t. are_stored _ _ _ _ _ _ c.self.invariant c.end_of_high.ensures.all
          (c.are_at.ensures.0 c.if-are_at.true) (c.are_at-then-are_at.ensures.0 t)),
      (λ s. c.are_at-then-are_at.ensures.1 (stored_high _ _ _ _ _ _ c.self.invariant
          c.end_of_high.ensures.none c.end_of_high.ensures.all s)),
    )

pub returns-else-are_at : goal.returns-else-are_at
returns-else-are_at c =
    rw (← c.self.view_is) (
      (λ t. let never : false ≡ true = t in cc),
      (λ s.
          let other = c.if-are_at.false in
          let same = c.are_at.ensures.1 (stored_low _ _ _ _ _ c.self.invariant s) in cc),
    )
