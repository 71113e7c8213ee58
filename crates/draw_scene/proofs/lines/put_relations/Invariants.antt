use Rattle.std.proofs.Common.{◌≡◌, ◌++◌, map, take}
use Rattle.std.specs.List.{flat_map}
use Rattle.draw_scene.specs.Lines.{edge_lines, seen_line}
use Rattle.draw_scene.proofs.lines.put_relations.Given as goal

abbrev pub invariant-loop-edges : goal.invariant-loop-edges
invariant-loop-edges l =
    map seen_line l.lines.items
    ≡ map seen_line l.initial.lines.items
    ++ flat_map (edge_lines l.drawing l.links) (take l.edges-index l.drawing.edges.items)
