use Rattle.std.proofs.Common.{◌≡◌, ◌∷◌, map, take}
use Rattle.why_forbidden.proofs.drawing.step_ends.Given as goal

-- where they begin, and the ends of the steps so far
abbrev pub invariant-loop-step : goal.invariant-loop-step
invariant-loop-step l = l.ends.items ≡ l.first ∷ map (λ s. s.to) (take l.step-index l.steps)
