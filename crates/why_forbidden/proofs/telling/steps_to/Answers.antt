use Rattle.std.proofs.Common.{ℕ, ◌≡◌, ◌+◌, ◌∙◌, List, [], ◌∷◌, ◌++◌, ap, arith, map, sym, subst, take}
use Rattle.std.specs.List.{AllZip}
use Rattle.std.proofs.lemmas.List.{map-append, take_more}
use Rattle.binding_graph.proofs.Labels.{zip_push}
use Rattle.why_text.specs.declared.reason.ToldStep.{ToldStep}
use Rattle.why_forbidden.specs.declared.telling.Leg.{Leg}
use Rattle.why_forbidden.specs.Steps.{StepLeg, IsToldStep}
use Rattle.why_forbidden.specs.Views.{judgement_of, leg_of}
use Rattle.why_forbidden.proofs.telling.steps_to.Goals as goal

pub loop-leg-preserved : goal.loop-leg-preserved
loop-leg-preserved c =
    let legs : List Leg = c.deref-leg-items.result.now in
    let i : ℕ = c.loop-leg.leg-index in
    let leg : Leg = c.leg-item.result in
    let R = IsToldStep (judgement_of c.args.judged c.args.is_deep) c.args.item c.args.candidate in
    let next : map leg_of (take (i + 1) legs) ≡ map leg_of (take i legs) ++ leg_of leg ∷ [] =
    ap (map leg_of) (take_more legs i leg (omega arith)
    ∙ ap (λ (y : Leg). take i legs ++ y ∷ []) (sym c.leg-item.is))
    ∙ map-append leg_of (take i legs) (leg ∷ []) in
    let more = zip_push R (map leg_of (take i legs)) c.loop-leg.steps.items (leg_of leg) c.in_ok-step.field-0 c.loop-leg.invariant c.in_ok-step.ensures in
    subst (λ (xs : List StepLeg). AllZip R xs c.push.new.self.items) (sym {A = List StepLeg} next)
    (subst (λ (ys : List ToldStep). AllZip R (map leg_of (take i legs) ++ leg_of leg ∷ []) ys)
    (sym {A = List ToldStep} c.in_ok-push.ensures.items) more)
