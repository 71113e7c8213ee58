use Rattle.std.proofs.Common.{◌≡◌, ◌++◌, drop}
use Rattle.memo_engine.proofs.work.present_keys.Given as goal

abbrev pub invariant-loop-i : goal.invariant-loop-i
invariant-loop-i g l =
    let net = g.T.Texts.net l.texts in
    l.keys.items ++ drop l.i (net.inputs l.node) ≡ net.inputs l.node
