use Rattle.std.proofs.Common.{◌≡◌, ◌++◌, take}
use Rattle.std.specs.List.{flat_map}
use Rattle.draw_graph.specs.Texts.{edge_line}
use Rattle.draw_graph.proofs.text.put_edges.Given as goal

abbrev pub invariant-loop-pair : goal.invariant-loop-pair
invariant-loop-pair l =
    l.text.items
    ≡ l.initial.text.items
    ++ flat_map (edge_line l.initial_count l.edges.name.items l.edges.ink)
    (take l.pair-index l.edges.pairs.items)
