use Rattle.std.proofs.Common.{◌≡◌, ◌++◌, take}
use Rattle.std.specs.List.{flat_map}
use Rattle.draw_graph.specs.Texts.{node_line}
use Rattle.draw_graph.proofs.text.put_nodes.Given as goal

abbrev pub invariant-loop-event : goal.invariant-loop-event
invariant-loop-event l =
    l.text.items
    ≡ l.initial.text.items
    ++ flat_map (node_line l.telling.locations.now l.telling.initial_count)
    (take l.event-index l.events)
