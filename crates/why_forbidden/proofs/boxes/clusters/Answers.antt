use Rattle.std.proofs.Common.{◌+◌, sym, subst, List}
use Rattle.bit_rows.specs.Relation.{IsMember}
use Rattle.draw_graph.specs.declared.drawing.Cluster.{Cluster}
use Rattle.why_forbidden.specs.Drawings.{AreClusters}
use Rattle.why_forbidden.specs.Views.{scene_of}
use Rattle.why_forbidden.proofs.Boxing.{cluster_more}
use Rattle.why_forbidden.proofs.boxes.clusters.Goals as goal

pub loop-thread-preserved : goal.loop-thread-preserved
loop-thread-preserved c =
    let scene = scene_of c.args.told in
    let D = IsMember c.args.drawn.now in
    let i = c.loop-thread.thread in
    subst (λ (cs : List Cluster). AreClusters scene D (i + 1) cs)
    (sym {A = List Cluster} c.in_ok-push.ensures.items)
    (cluster_more scene D i c.loop-thread.clusters.items c.in_ok-cluster.field-0
    c.in_ok-cluster.ensures c.loop-thread.invariant)
