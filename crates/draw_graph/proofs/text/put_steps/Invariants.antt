use Rattle.std.proofs.Common.{◌≡◌, ◌++◌, drop}
use Rattle.draw_graph.specs.Texts.{steps_text}
use Rattle.draw_graph.proofs.text.put_steps.Given as goal

abbrev pub invariant-loop-step : goal.invariant-loop-step
invariant-loop-step l =
    l.text.items ++ steps_text l.initial_count l.from (drop l.step-index l.steps)
    ≡ l.initial.text.items ++ steps_text l.initial_count l.initial.from l.steps
