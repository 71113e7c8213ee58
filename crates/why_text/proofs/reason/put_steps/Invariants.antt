use Rattle.std.proofs.Common.{◌≡◌, ◌++◌, take}
use Rattle.std.specs.List.{flat_map}
use Rattle.why_text.specs.Reasons.{step_text}
use Rattle.why_text.proofs.reason.put_steps.Given as goal

abbrev pub invariant-loop-step : goal.invariant-loop-step
invariant-loop-step l =
    l.text.items
    ≡ l.initial.text.items ++ flat_map (step_text l.initial_count) (take l.step-index l.steps)
