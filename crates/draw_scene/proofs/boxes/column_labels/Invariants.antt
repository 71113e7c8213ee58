use Rattle.std.proofs.Common.{◌≡◌, map, take}
use Rattle.draw_scene.specs.Scene.{column_texts, thread_texts}
use Rattle.draw_scene.proofs.boxes.column_labels.Given as goal

abbrev pub invariant-loop-cluster : goal.invariant-loop-cluster
invariant-loop-cluster l =
    map column_texts l.columns.items
    ≡ map (thread_texts l.telling.locations.now l.telling.initial_count)
    (take l.cluster-index l.clusters)
