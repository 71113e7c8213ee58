use Rattle.std.proofs.Common.{◌≡◌, map, take}
use Rattle.draw_scene.specs.Scene.{event_texts, texts_in}
use Rattle.draw_scene.proofs.boxes.thread_labels.Given as goal

abbrev pub invariant-loop-event : goal.invariant-loop-event
invariant-loop-event l =
    map texts_in l.labels.items
    ≡ map (event_texts l.telling.locations.now l.telling.initial_count)
    (take l.event-index l.cluster.events.items)
