use Rattle.std.proofs.Common.{◌≡◌}
use Rattle.memo_core.specs.Graph.{present_inputs}
use Rattle.memo_core.specs.Tests.{is_out}
use Rattle.memo_core.specs.Views.{as_memos}
use Rattle.memo_engine.proofs.work.is_open.Given as goal

abbrev pub invariant-loop-claim : goal.invariant-loop-claim
invariant-loop-claim g l =
    let net = g.T.Texts.net l.texts in
    let present = present_inputs net (as_memos l.memos.entries) (net.inputs l.node) in
    is_out l.node present l.claim-iterator ≡ is_out l.node present l.claims.entries
