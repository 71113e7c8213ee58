use Rattle.bench_values.proofs.given.same_condition.Goals as goal

pub returns : goal.returns
returns c = (
  (λ t. (c.is_same_condition.ensures.quantifier t, c.is_same_condition.ensures.proposition t)),
  (λ e. c.is_same_condition.ensures.exact e.0 e.1),
)
