use Rattle.std.proofs.Common.{arith, ◌<◌, length}
use Rattle.std.proofs.lemmas.Bool.{false≢true}
use Rattle.base_names.proofs.Linked.{links_at}
use Rattle.base_names.proofs.Linking.{row_more, row_less}
use Rattle.base_names.proofs.fixed.put_linked_from.Goals as goal
use Rattle.base_names.proofs.fixed.put_linked_from.Goals.{then-is_linked, else-is_linked}

pub loop-to-preserved : goal.loop-to-preserved
loop-to-preserved c =
    let row : c.args.from < length c.args.events.now = omega (arith, c.requires) in
    let column : c.loop-to.to < length c.args.events.now = omega (arith, c.requires, c.loop-to-test, c.count-to-end.ensures) in
    elim c.if-is_linked.branch [
      | then-is_linked w ↦ rw w.target-is (row_more _ _ _ _ c.loop-to.invariant
          ((links_at _ _ _ _ _ _ row column).1 (c.is_linked.ensures.0 w.if-is_linked.true))
          w.insert.ensures)
      | else-is_linked w ↦ rw w.target-is (row_less _ _ _ _ c.loop-to.invariant
          (λ h. absurd (false≢true (rw w.if-is_linked.false at (c.is_linked.ensures.1
          ((links_at _ _ _ _ _ _ row column).0 h))))))
    ]
