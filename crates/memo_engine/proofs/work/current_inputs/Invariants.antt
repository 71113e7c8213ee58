use Rattle.std.proofs.Common.{◌≡◌, ◌++◌, drop}
use Rattle.memo_core.specs.Graph.{present_inputs}
use Rattle.memo_core.specs.Views.{as_memos}
use Rattle.memo_engine.proofs.work.current_inputs.Given as goal

abbrev pub invariant-loop-i : goal.invariant-loop-i
invariant-loop-i g l =
    let net = g.T.Texts.net l.texts in
    let present = present_inputs net (as_memos l.memos.entries) in
    l.inputs.items ++ present (drop l.i (net.inputs l.node)) ≡ present (net.inputs l.node)
