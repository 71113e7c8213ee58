use Rattle.std.proofs.Common.{◌∙◌, sym, rules, false, IsTrue}
use Rattle.relation_columns.proofs.Keeping.{high_words, is_there, low_words, other_count}
use Rattle.relation_columns.proofs.spans.is_value.Goals as goal

no_false : IsTrue false → ⊥
no_false t = search rules

pub returns-then-span-count : goal.returns-then-span-count
returns-then-span-count c = (
  (λ t. absurd (no_false t)),
  (λ e. absurd (c.if-span-count.true (other_count _ _ _ _ _ c.requires.kept
      c.requires.run e ∙ sym c.count.ensures.value))),
)

pub is_stored-requires-clause-low : goal.is_stored-requires-clause-low
is_stored-requires-clause-low c =
    rw (← c.count.ensures.value, ← c.if-span-count.false)
    (low_words _ _ _ _ c.requires.kept c.requires.run)

pub is_stored-requires-clause-high : goal.is_stored-requires-clause-high
is_stored-requires-clause-high c =
    rw (← c.count.ensures.value, ← c.if-span-count.false)
    (high_words _ _ _ _ c.requires.kept c.requires.run)

pub returns : goal.returns
returns c =
    let same = is_there _ _ _ _ _ c.requires.kept c.requires.run (c.if-span-count.false ∙ c.count.ensures.value) c.count.ensures.regular in
    ((λ t. same.0 (c.is_stored.ensures.0 t)), (λ e. c.is_stored.ensures.1 (same.1 e)))
