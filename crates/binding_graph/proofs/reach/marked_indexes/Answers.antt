use Rattle.std.proofs.Common.{rules, ◌≡◌, get_or, false, ap, ◌∙◌}
use Rattle.binding_graph.specs.Reach.{IsMarked}
use Rattle.binding_graph.proofs.Reaching.{indexes_more, indexes_same, indexes_rise}
use Rattle.binding_graph.proofs.reach.marked_indexes.Goals as goal
use Rattle.binding_graph.proofs.reach.marked_indexes.Goals.{then-marked+in_ok-push, else-marked}

pub loop-index-preserved : goal.loop-index-preserved
loop-index-preserved c =
    let marks = c.args.marks.now in
    let index = c.loop-index.index in
    let indexes = c.loop-index.indexes.items in
    elim c.if-marked.branch [
      | then-marked+in_ok-push w ↦
          let is : IsMarked marks index = search (rules, w.if-marked) in
          let more = ap (λ v. v.items) w.indexes-is ∙ w.in_ok-push.ensures.items in
          rw more (
            indexes_rise marks indexes index c.loop-index.invariant.1
                c.loop-index.invariant.0,
            indexes_more marks indexes index is c.loop-index.invariant.1,
          )
      | else-marked w ↦
          let off : get_or marks index false ≡ false = search (rules, w.if-marked) in
          rw w.indexes-is (
            c.loop-index.invariant.0,
            indexes_same marks indexes index off c.loop-index.invariant.1,
          )
    ]
