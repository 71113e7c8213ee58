use Rattle.std.proofs.Common.{ℕ, ◌<◌, ◌+◌, ◌∙◌, ap, length, arith}
use Rattle.binding_graph.proofs.Done.{searched_more, searched_fault, searched_all, done_more, all_done}
use Rattle.binding_graph.proofs.Labels.{labels_more, labels_all}
use Rattle.binding_graph.proofs.items.find_items.Goals as goal

pub loop-index-preserved : goal.loop-index-preserved
loop-index-preserved c =
    let lt : c.loop-index.index < length c.args.items.now = omega arith in
    let is = c.index-items-index.is in
    let d = c.index-items-index.result in
    let before = c.loop-index.scope.entries.items in
    let after = c.read_item.new.scope.entries.items in
    let one = c.in_ok-fault.ensures in
    let ok = c.in-Ok.is in
    record {
      count =
          c.in_ok-push_item-in-Ok.ensures.count
          ∙ ap (λ (n : ℕ). n + 1) c.loop-index.invariant.count;
      rest = λ ss kept.
          searched_more ss _ before after c.loop-index.scope.functions.items
          c.read_item.new.scope.functions.items c.args.items.now c.loop-index.index d lt
          (c.loop-index.invariant.rest ss kept)
          (λ s k. rw (← is) (rw ok at (one.fault s k)))
          (λ s k. rw (← is) (rw ok at (one.names s k)))
          (λ s k. rw (← is) (rw ok at (one.functions s k)));
      items = λ ss kept_all sound known.
          let m = c.loop-index.invariant.items ss kept_all sound known in
          done_more ss _ _ before after c.args.items.now c.loop-index.index d _ _ _ _ c.in-Ok.one lt
          m (rw (← is) (rw ok at (one.fault m.senses m.kept)))
          (rw (← is) (rw ok at (one.functions m.senses m.kept)))
          (rw (← is) (rw ok at (one.names m.senses m.kept)))
          (rw (← is) (rw ok at one.usages))
          (rw (← is) (rw ok at (one.resolved m.senses m.kept m.sound m.known)))
          c.in_ok-push_item-in-Ok.ensures.items;
      labels =
          labels_more c.args.items.now c.loop-index.index d c.loop-index.resolved.items _
          c.in-Ok.one lt c.loop-index.invariant.labels (rw (← is) (rw ok at one.label))
          c.in_ok-push_item-in-Ok.ensures.items;
    }

pub returns-in-Err-clause-fault : goal.returns-in-Err-clause-fault
returns-in-Err-clause-fault c = λ ss kept.
    let lt : c.loop-index.index < length c.args.items.now = omega arith in
    let is = c.index-items-index.is in
    searched_fault ss _ c.loop-index.scope.entries.items c.loop-index.scope.functions.items
    c.args.items.now c.loop-index.index c.index-items-index.result c.in-Err.fault lt
    (c.loop-index.invariant.rest ss kept) (λ s k.
    rw (← is) (rw c.in-Err.is at (c.in_ok-fault.ensures.fault s k)))

pub returns-clause-items : goal.returns-clause-items
returns-clause-items c =
    λ ss kept sound known none. all_done ss _ _ _ _ c.args.items.now c.loop-index.index
    c.loop-index.resolved.items (c.loop-index.invariant.items ss kept sound known) (omega arith)

pub returns-clause-labels : goal.returns-clause-labels
returns-clause-labels c =
    λ none. labels_all c.args.items.now c.loop-index.index c.loop-index.resolved.items (omega arith)
    c.loop-index.invariant.labels

pub returns-clause-fault : goal.returns-clause-fault
returns-clause-fault c =
    λ ss kept. searched_all ss _ _ _ c.args.items.now c.loop-index.index (omega arith)
    (c.loop-index.invariant.rest ss kept)
