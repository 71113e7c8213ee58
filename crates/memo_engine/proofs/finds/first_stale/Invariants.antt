use Rattle.std.proofs.Common.{◌≡◌, drop}
use Rattle.memo_core.specs.Graph.{present_inputs}
use Rattle.memo_core.specs.Step.{stale_stamp}
use Rattle.memo_core.specs.Views.{as_memos}
use Rattle.memo_engine.proofs.finds.first_stale.Given as goal

abbrev pub invariant-loop-i : goal.invariant-loop-i
invariant-loop-i g l =
    let net = g.T.Texts.net l.texts in
    let present = present_inputs net (as_memos l.memos.entries) in
    stale_stamp l.last (present (drop l.i (net.inputs l.node))) (drop l.i l.inputs)
    ≡ stale_stamp 0 (present (net.inputs l.node)) l.inputs
