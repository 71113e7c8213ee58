use Rattle.std.proofs.Common.{length, []}
use Rattle.memo_engine.specs.Waiting.{IsWholeTo}
use Rattle.memo_engine.proofs.work.find_waiting.Given as goal

abbrev pub decreases-loop-node : goal.decreases-loop-node
decreases-loop-node g l = length l.waiting.nodes.items

abbrev pub invariant-loop-node : goal.invariant-loop-node
invariant-loop-node g l =
    let net = g.T.Texts.net l.texts in
    IsWholeTo net l.memos.entries l.claims.entries l.fn.waiting []
    → IsWholeTo net l.memos.entries l.claims.entries l.waiting []
