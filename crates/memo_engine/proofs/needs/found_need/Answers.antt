use Rattle.std.proofs.Common.{◌≡◌, ◌∙◌, false, sym, arith}
use Rattle.std.proofs.lemmas.List.{drop_all}
use Rattle.memo_core.specs.Graph.{present_inputs}
use Rattle.memo_core.specs.Views.{as_memos}
use Rattle.memo_core.specs.Tests.{same_inputs}
use Rattle.memo_engine.proofs.NeedLemmas.{longer, need_work}
use Rattle.memo_engine.proofs.needs.found_need.Goals as goal
use Rattle.memo_engine.proofs.needs.found_need.Goals.{else-same-via-then-same+else-inputs-count, else-same-via-else-same}

pub returns-else-same : goal.returns-else-same
returns-else-same g c =
    let net = g.T.Texts.net c.args.texts.now in
    let keys = net.inputs c.args.node in
    let present = present_inputs net (as_memos c.args.memos.now.entries) keys in
    let end = drop_all c.loop-i.i keys (omega arith) in
    let other : same_inputs c.args.inputs.now present ≡ false = elim c.else-same.branch [
      | else-same-via-then-same+else-inputs-count w ↦
          sym (rw (end, w.if-same.true) at c.loop-i.invariant.same)
          ∙ longer c.args.inputs.now c.loop-i.i (omega arith)
      | else-same-via-else-same w ↦ sym (rw w.if-same.false at c.loop-i.invariant.same)
    ] in
    need_work c.args.index _ _ (sym (rw end at c.loop-i.invariant.marked)) other
