use Rattle.std.proofs.Common.{◌≡◌, ◌++◌, drop}
use Rattle.std.specs.Prelude.{option_map}
use Rattle.memo_core.specs.Graph.{at}
use Rattle.memo_core.specs.Tests.{values_at}
use Rattle.memo_core.specs.Views.{as_memos, shown_values}
use Rattle.memo_engine.proofs.work.hold_all.Given as goal

abbrev pub invariant-loop-i : goal.invariant-loop-i
invariant-loop-i g l =
    let net = g.T.Texts.net l.texts in
    let there = values_at (at (as_memos l.memos.entries)) in
    option_map (λ rest. shown_values l.values.items ++ rest) (there (drop l.i (net.inputs l.node)))
    ≡ there (net.inputs l.node)
