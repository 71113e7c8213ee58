use Rattle.std.proofs.Common.{ℕ, List, subst, ◌∙◌}
use Rattle.plain_models.specs.Groups.{pairs_of, Extends}
use Rattle.plain_models.proofs.group.extended.Goals as goal

pub returns : goal.returns
returns c = (
  tt,
  subst (λ (l : List (ℕ × ℕ)). Extends l (pairs_of c.args.more.now) c.put_pairs.new.pairs.items)
      (c.in_ok-whole.ensures.items ∙ c.pairs-old.ensures)
      (subst
      (λ (l : List (ℕ × ℕ)). Extends c.in_ok-whole.whole.items l c.put_pairs.new.pairs.items)
      c.pairs-others.ensures c.in_ok-put_pairs.ensures),
)
