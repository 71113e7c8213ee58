use Rattle.bench_texts.proofs.Counts.{over_exact}
use Rattle.bench_texts.proofs.limits.are_many.Goals as goal

pub returns : goal.returns
returns c =
    λ exact h. rw (c.saturating_mul.ensures, c.saturating_add.ensures)
    (over_exact c.args.tests exact c.args.of_models h)
