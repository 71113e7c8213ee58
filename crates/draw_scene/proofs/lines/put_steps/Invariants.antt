use Rattle.std.proofs.Common.{◌≡◌, ◌++◌, map, take}
use Rattle.std.specs.List.{flat_map}
use Rattle.draw_scene.specs.Lines.{seen_line, step_line}
use Rattle.draw_scene.proofs.lines.put_steps.Given as goal

abbrev pub invariant-loop-link : goal.invariant-loop-link
invariant-loop-link l =
    map seen_line l.lines.items
    ≡ map seen_line l.initial.lines.items
    ++ flat_map (step_line l.drawing) (take l.link-index l.links)
