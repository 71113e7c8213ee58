use Rattle.std.proofs.Common.{ℕ, List, ap, get_or}
use Rattle.bit_rows.proofs.Columns.{taken_apart}
use Rattle.bit_relations.proofs.Asking.{same_made, same_high}
use Rattle.bit_relations.proofs.rel.Rel.is_same.Goals as goal

pub returns-then-are_same : goal.returns-then-are_same
returns-then-are_same c =
    rw (← c.self.view_is, ← c.other.view_is) (
      (λ t. same_made (taken_apart _ _ _ c.self.invariant) (taken_apart _ _ _ c.other.invariant)
          c.if-self-other.false
          (record {
            few = c.end_of_high.ensures.few;
            none = c.end_of_high.ensures.none;
            all = c.end_of_high.ensures.all;
          })
          (c.are_same.ensures.0 c.if-are_same.true)
          (c.are_same-then-are_same.ensures.0 t)),
      (λ e. c.are_same-then-are_same.ensures.1 (λ a lt. ap (λ (ws : List ℕ). get_or ws a 0)
          (same_high c.self.invariant c.other.invariant e))),
    )
