use Rattle.std.proofs.Common.{◌≡◌, ◌≤◌, length, drop}
use Rattle.memo_core.specs.Graph.{at}
use Rattle.memo_core.specs.Tests.{all_hold}
use Rattle.memo_core.specs.Views.{as_memos, shown_values}
use Rattle.memo_engine.proofs.finds.values_are.Given as goal

abbrev pub invariant-loop-key : goal.invariant-loop-key
invariant-loop-key g l =
    let hold = all_hold g.T.Texts.same (at (as_memos l.memos.entries)) in
    record { within : l.j ≤ length l.values; same : hold (drop l.key-index l.keys) (shown_values (drop l.j l.values)) ≡ hold l.keys (shown_values l.values) }
