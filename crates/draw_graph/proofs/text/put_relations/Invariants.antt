use Rattle.std.proofs.Common.{◌≡◌, ◌++◌, take}
use Rattle.std.specs.List.{flat_map}
use Rattle.draw_graph.specs.Texts.{edges_text}
use Rattle.draw_graph.proofs.text.put_relations.Given as goal

abbrev pub invariant-loop-relation : goal.invariant-loop-relation
invariant-loop-relation l =
    l.text.items
    ≡ l.initial.text.items
    ++ flat_map (edges_text l.initial_count) (take l.relation-index l.relations)
