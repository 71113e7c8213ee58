use Rattle.std.proofs.Common.{inl, inr, length, true, false, ◌≡◌, ap, arith}
use Rattle.plain_models.specs.Groups.{pairs_of}
use Rattle.plain_models.proofs.Stepping.{grown_next, none_grown}
use Rattle.plain_models.proofs.group.has_grown.Goals as goal

pub loop-index-init : goal.loop-index-init
loop-index-init c = ((λ h. h), (λ h. h))

pub loop-index-preserved : goal.loop-index-preserved
loop-index-preserved c =
    let v = c.index-values-index.result in
    let w = c.index-next-index.result in
    let step = grown_next c.args.values.now c.args.next.now c.loop-index.index v w (omega arith) (omega arith) c.index-values-index.is c.index-next-index.is in
    let old : length c.pairs-old.result.now ≡ length (pairs_of v) = ap (λ l. length l) c.pairs-old.ensures in
    let new : length c.pairs-new.result.now ≡ length (pairs_of w) = ap (λ l. length l) c.pairs-new.ensures in (
      (λ h. elim (step.0 (c.loop-index.invariant.0 h)) [
        | inl lt ↦ absurd (omega (arith, old, new, lt))
        | inr later ↦ later
      ]),
      (λ h. c.loop-index.invariant.1 (step.1 (inr h))),
    )

pub returns : goal.returns
returns c = (
  (λ e. absurd (let wrong : false ≡ true = e in let never : ⊥ = cc in never)),
  (λ h. absurd (none_grown c.args.values.now c.args.next.now c.loop-index.index (omega arith) (c.loop-index.invariant.0 h))),
)
