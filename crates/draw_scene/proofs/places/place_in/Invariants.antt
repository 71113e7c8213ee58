use Rattle.std.proofs.Common.{◌≡◌, drop}
use Rattle.draw_scene.specs.Lines.{place_in}
use Rattle.draw_scene.proofs.places.place_in.Given as goal

-- it is not among the events of the threads before
abbrev pub invariant-loop-thread : goal.invariant-loop-thread
invariant-loop-thread l =
    place_in l.number l.thread (drop l.thread l.clusters) ≡ place_in l.number 0 l.clusters
