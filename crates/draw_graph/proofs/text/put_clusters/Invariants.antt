use Rattle.std.proofs.Common.{◌≡◌, ◌++◌, take}
use Rattle.std.specs.List.{flat_map}
use Rattle.draw_graph.specs.Texts.{cluster_text}
use Rattle.draw_graph.proofs.text.put_clusters.Given as goal

abbrev pub invariant-loop-cluster : goal.invariant-loop-cluster
invariant-loop-cluster l =
    l.text.items
    ≡ l.initial.text.items
    ++ flat_map (cluster_text l.telling.locations.now l.telling.initial_count)
    (take l.cluster-index l.clusters)
