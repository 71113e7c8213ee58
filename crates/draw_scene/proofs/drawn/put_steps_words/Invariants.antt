use Rattle.std.proofs.Common.{◌≡◌, ◌++◌, take}
use Rattle.std.specs.List.{flat_map}
use Rattle.draw_scene.specs.Drawn.{step_words}
use Rattle.draw_scene.proofs.drawn.put_steps_words.Given as goal

abbrev pub invariant-loop-step : goal.invariant-loop-step
invariant-loop-step l =
    l.words.items
    ≡ l.initial.words.items
    ++ flat_map (step_words l.initial_count) (take l.step-index l.steps)
