use Rattle.std.proofs.Common.{◌≡◌, ◌&&◌, drop}
use Rattle.memo_core.specs.Graph.{present_inputs}
use Rattle.memo_core.specs.Views.{as_memos}
use Rattle.memo_core.specs.Tests.{all_nodes, same_inputs}
use Rattle.memo_core.specs.Marks.{mark_of}
use Rattle.memo_engine.proofs.needs.found_need.Given as goal

abbrev pub invariant-loop-i : goal.invariant-loop-i
invariant-loop-i g l =
    let net = g.T.Texts.net l.texts in
    let ks = l.memos.entries in
    let keys = net.inputs l.node in
    let present = present_inputs net (as_memos ks) in
    record {
      marked : all_nodes (mark_of ks) (drop l.i keys) ≡ all_nodes (mark_of ks) keys;
      same : (l.same && same_inputs (drop l.i l.inputs) (present (drop l.i keys)))
          ≡ same_inputs l.inputs (present keys);
    }
