use Rattle.bit_rows.specs.Relation.{IsMember}
use Rattle.why_forbidden.specs.Drawings.{AreClusters}
use Rattle.why_forbidden.specs.Views.{scene_of}
use Rattle.why_forbidden.proofs.boxes.clusters.Given as goal

abbrev pub invariant-loop-thread : goal.invariant-loop-thread
invariant-loop-thread l = AreClusters (scene_of l.told) (IsMember l.drawn) l.thread l.clusters.items
