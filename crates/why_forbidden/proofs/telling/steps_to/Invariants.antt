use Rattle.std.proofs.Common.{map, take}
use Rattle.std.specs.List.{AllZip}
use Rattle.why_forbidden.specs.Steps.{IsToldStep}
use Rattle.why_forbidden.specs.Views.{judgement_of, leg_of}
use Rattle.why_forbidden.proofs.telling.steps_to.Given as goal

abbrev pub invariant-loop-leg : goal.invariant-loop-leg
invariant-loop-leg l =
    AllZip (IsToldStep (judgement_of l.judged l.is_deep) l.item l.candidate)
    (map leg_of (take l.leg-index l.leg-items)) l.steps.items
