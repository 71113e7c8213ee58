use Rattle.std.proofs.Common.{rules, ◌≡◌, length, Some, slice_get, refl, arith}
use Rattle.std.proofs.lemmas.Option.{slice_get_read}
use Rattle.binding_graph.proofs.Reaching.{checks_start, checks_more, checks_same, checks_all}
use Rattle.binding_graph.proofs.reach.mark_checks.Goals as goal
use Rattle.binding_graph.proofs.reach.mark_checks.Goals.{then-is_check+in_ok-mark, else-is_check}

pub loop-index-init : goal.loop-index-init
loop-index-init c = checks_start c.args.items.now c.args.marks.now.items c.args.waiting.now.items

pub loop-index-preserved : goal.loop-index-preserved
loop-index-preserved c =
    let items = c.args.items.now in
    let index = c.loop-index.index in
    let r = c.index-items-index.result in
    let is : slice_get items index ≡ Some r = slice_get_read items (length items) index r refl (omega arith) c.index-items-index.is in
    elim c.if-is_check.branch [
      | then-is_check+in_ok-mark w ↦ rw (w.marks-is, w.waiting-is) (checks_more items index r _ _ _
          _ _ _ is (search (rules, w.if-is_check)) c.loop-index.invariant w.in_ok-mark.ensures)
      | else-is_check w ↦ rw (w.marks-is, w.waiting-is) (checks_same items index r _ _ _ _ is
          (search (rules, w.if-is_check)) c.loop-index.invariant)
    ]

pub returns : goal.returns
returns c =
    checks_all c.args.items.now c.loop-index.index c.args.marks.now.items c.loop-index.marks.items
    c.args.waiting.now.items c.loop-index.waiting.items (omega arith) c.loop-index.invariant
