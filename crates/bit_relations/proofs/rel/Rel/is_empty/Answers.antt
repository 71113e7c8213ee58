use Rattle.std.proofs.Common.{IsTrue}
use Rattle.bit_rows.proofs.Columns.{taken_apart}
use Rattle.bit_relations.proofs.Asking.{none_there, zero_low, zero_high}
use Rattle.bit_relations.proofs.rel.Rel.is_empty.Goals as goal

pub returns-then-are_empty : goal.returns-then-are_empty
returns-then-are_empty c =
    let m = taken_apart _ _ _ c.self.invariant in
    rw (← c.self.view_is) (
      (λ t. none_there m
          (record {
            few = c.end_of_high.ensures.few;
            none = c.end_of_high.ensures.none;
            all = c.end_of_high.ensures.all;
          })
          (c.are_empty.ensures.0 c.if-are_empty.true)
          (c.are_empty-then-are_empty.ensures.0 t)),
      (λ none. c.are_empty-then-are_empty.ensures.1 (λ a lt. zero_high m none a)),
    )

pub returns-else-are_empty : goal.returns-else-are_empty
returns-else-are_empty c =
    let m = taken_apart _ _ _ c.self.invariant in
    rw (← c.self.view_is) (
      (λ t. absurd cc),
      (λ none.
          let t : IsTrue c.are_empty.result =
          c.are_empty.ensures.1 (λ a lt. zero_low m none a) in
          let f = c.if-are_empty.false in absurd cc),
    )
