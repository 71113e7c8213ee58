use Rattle.std.proofs.Common.{◌≡◌, false, take}
use Rattle.std.specs.List.{list_any}
use Rattle.draw_scene.specs.Lines.{is_edge}
use Rattle.draw_scene.proofs.lines.is_any_edge.Given as goal

abbrev pub invariant-loop-one : goal.invariant-loop-one
invariant-loop-one l = list_any (is_edge l.link) (take l.one-index l.edges) ≡ false
