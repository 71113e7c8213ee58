use Rattle.std.proofs.Common.{IsTrue}
use Rattle.bit_rows.proofs.Columns.{taken_apart}
use Rattle.bit_relations.proofs.Asking.{irreflexive, irreflexive_low, irreflexive_high}
use Rattle.bit_relations.proofs.rel.Rel.is_irreflexive.Goals as goal

pub returns-then-is_diagonal_free : goal.returns-then-is_diagonal_free
returns-then-is_diagonal_free c =
    let m = taken_apart _ _ _ c.self.invariant in
    rw (← c.self.view_is) (
      (λ t. irreflexive m
          (record {
            few = c.end_of_high.ensures.few;
            none = c.end_of_high.ensures.none;
            all = c.end_of_high.ensures.all;
          })
          (c.is_diagonal_free.ensures.0 c.if-is_diagonal_free.true)
          (c.is_diagonal_free-then-is_diagonal_free.ensures.0 t)),
      (λ none. c.is_diagonal_free-then-is_diagonal_free.ensures.1 (irreflexive_high m none)),
    )

pub returns-else-is_diagonal_free : goal.returns-else-is_diagonal_free
returns-else-is_diagonal_free c =
    let m = taken_apart _ _ _ c.self.invariant in
    rw (← c.self.view_is) (
      (λ t. absurd cc),
      (λ none.
          let t : IsTrue c.is_diagonal_free.result =
          c.is_diagonal_free.ensures.1 (irreflexive_low m none) in
          let f = c.if-is_diagonal_free.false in absurd cc),
    )
