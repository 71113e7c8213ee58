use Rattle.std.proofs.Common.{◌≡◌, ◌++◌, map, take}
use Rattle.std.specs.List.{flat_map}
use Rattle.draw_scene.specs.Lines.{edge_line, seen_line}
use Rattle.draw_scene.proofs.lines.put_edges.Given as goal

abbrev pub invariant-loop-pair : goal.invariant-loop-pair
invariant-loop-pair l =
    map seen_line l.lines.items
    ≡ map seen_line l.initial.lines.items
    ++ flat_map (edge_line l.drawing l.links l.edges.name.items l.edges.ink)
    (take l.pair-index l.edges.pairs.items)
