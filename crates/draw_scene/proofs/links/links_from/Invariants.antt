use Rattle.std.proofs.Common.{◌≡◌, ◌++◌, drop}
use Rattle.draw_scene.specs.Lines.{links_from}
use Rattle.draw_scene.proofs.links.links_from.Given as goal

-- the steps so far, with those that are left, are all
abbrev pub invariant-loop-step : goal.invariant-loop-step
invariant-loop-step l =
    l.links.items ++ links_from l.from (drop l.step-index l.steps) ≡ links_from l.first l.steps
