use Rattle.std.proofs.Common.{ℕ, ◌≡◌, ◌+◌, ◌<◌, inl, inr, List, length, set, get_or, arith, ◌∙◌, ap, sym}
use Rattle.std.proofs.lemmas.Grind.{get_or-set_at}
use Rattle.std.proofs.lemmas.List.{get_or-set_other}
use Rattle.std.proofs.Math.Nat.{eq-or-lt_of_le}
use Rattle.std.proofs.lemmas.List.{length-set}
use Rattle.std.specs.List.{count_by}
use Rattle.binding_kinds.specs.Applicable.{is_parameter_at}
use Rattle.binding_kinds.proofs.function.count_parts.Goals as goal

-- one more index has its value
filled : (F : ℕ → ℕ) (xs : List ℕ) (i y : ℕ) → i < length xs → y ≡ F i
    → ((p : ℕ) → p < i → get_or xs p 0 ≡ F p) → (p : ℕ) → p < i + 1 → get_or (set xs i y) p 0 ≡ F p
filled F xs i y lt e h p below =
    elim (eq-or-lt_of_le (omega arith)) [
      | inl same ↦ get_or-set_at xs i p y 0 same lt ∙ (e ∙ ap F (sym same))
      | inr less ↦ get_or-set_other xs i p y 0 (omega arith) ∙ h p less
    ]

pub loop-index-preserved : goal.loop-index-preserved
loop-index-preserved c = record {
  long =
      length-set c.loop-index.factors c.loop-index.index c.count_parameter.result
      ∙ c.loop-index.invariant.long;
  counted =
      filled (λ p. count_by (is_parameter_at p) c.args.template.now) c.loop-index.factors
      c.loop-index.index c.count_parameter.result (omega arith) c.count_parameter.ensures
      c.loop-index.invariant.counted;
}
