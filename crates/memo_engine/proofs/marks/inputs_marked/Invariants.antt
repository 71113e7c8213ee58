use Rattle.std.proofs.Common.{◌≡◌, drop}
use Rattle.memo_core.specs.Tests.{all_nodes}
use Rattle.memo_core.specs.Marks.{mark_of}
use Rattle.memo_engine.proofs.marks.inputs_marked.Given as goal

abbrev pub invariant-loop-i : goal.invariant-loop-i
invariant-loop-i g l =
    let net = g.T.Texts.net l.texts in
    all_nodes (mark_of l.memos.entries) (drop l.i (net.inputs l.node))
    ≡ all_nodes (mark_of l.memos.entries) (net.inputs l.node)
