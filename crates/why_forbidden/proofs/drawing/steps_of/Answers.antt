use Rattle.std.proofs.Common.{refl, sym, subst}
use Rattle.std.specs.Prelude.{Option, false}
use Rattle.why_forbidden.specs.declared.checks.FirstRefusal.{FirstRefusal}
use Rattle.why_forbidden.specs.Drawings.{AreSteps}
use Rattle.why_forbidden.specs.Views.{judgement_of, scene_of}
use Rattle.why_forbidden.proofs.drawing.steps_of.Goals as goal

pub returns-in_ok-reason-in-Some : goal.returns-in_ok-reason-in-Some
returns-in_ok-reason-in-Some c =
    let model = judgement_of c.args.judged false in
    let scene = scene_of c.args.told in
    let reason = c.in_ok-reason-in-Some.reason in
    subst
    (λ (found : Option FirstRefusal).
    AreSteps model c.args.judged.checks.now scene found reason.first reason.steps.items)
    (sym c.in-Some.is)
    (reason, c.in_ok-reason-in-Some.ensures, refl, refl)
