use Rattle.std.proofs.Common.{ℕ, ◌≡◌, ◌<◌, length, get_or}
use Rattle.why_walks.specs.declared.run.Link.{Link}
use Rattle.why_walks.specs.declared.value.FactorValues.{FactorValues}
use Rattle.why_walks.specs.Values.{IsLinkAt}
use Rattle.why_walks.proofs.value.links_at.Given as goal

abbrev pub invariant-loop-factor : goal.invariant-loop-factor
invariant-loop-factor l =
    (length l.links.items ≡ l.factor-index)
    × ((j : ℕ) → j < l.factor-index → (f : FactorValues) (k : Link)
    → IsLinkAt l.candidate (get_or l.factors j f) (get_or l.links.items j k))
